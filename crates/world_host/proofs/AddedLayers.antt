-- Bodies that are added layer after layer, on a shared world.
use Rattle.std.proofs.Common.{◌≡◌, ℕ, suc, ◌+◌, ◌-◌, ◌<◌, ◌≤◌, List, [], ◌++◌, Option, Some, None, refl, ap, sym, subst, ◌∙◌, append_assoc, arith}
use Rattle.std.specs.List.{range_with_len}
use Rattle.std.proofs.lemmas.List.{append-nil}
use Rattle.std.proofs.lemmas.List.Sums.{fold-append}
use Rattle.scene_model.specs.declared.entry.Entry.{Entry}
use Rattle.scene_model.specs.Scene.{Scene}
use Rattle.scene_model.specs.Step.{after_entry}
use Rattle.reply_text.specs.declared.refusal.Refusal.{Refusal}
use Rattle.script_player.specs.declared.books.Known.{Known}
use Rattle.script_player.specs.Books.{Books}
use Rattle.script_player.specs.Table.{Table, table_with}
use Rattle.script_player.specs.Attempt.{Attempt}
use Rattle.script_player.specs.Batches.{add_layer, followed, in_layer, add_layers}
use Rattle.world_host.specs.declared.serial_world.SerialWorld.{SerialWorld}
use Rattle.world_host.specs.Shown.{table_of, IsSound, Attempts}

-- an attempt behind entries that were made before it
abbrev behind : List Entry → Attempt → Attempt
behind made a = record a { entries = made ++ a.entries }

-- the bodies of the first layers, so many, were added
pub record HasAdded (old now : SerialWorld) (bodies : List Known) (layers i : ℕ) : Type 0 where
  pub made : List Entry
  pub after : table_of now ≡ table_with (table_of old) made now.books
  pub rest : add_layers (table_of old) bodies (range_with_len 0 layers) ≡ behind made (add_layers (table_of now) bodies (range_with_len i (layers - i)))
  pub sound : IsSound now
  pub sizes : now.world.map ≡ old.world.map

pub added-none : (w : SerialWorld) (bodies : List Known) (layers : ℕ) → IsSound w → HasAdded w w bodies layers 0
added-none w bodies layers sound = record {
  made = [];
  after = refl;
  rest = (let all : layers - 0 ≡ layers = omega arith in ap (λ (n : ℕ). add_layers (table_of w) bodies (range_with_len 0 n)) (sym all));
  sound = sound;
  sizes = refl;
}

-- what comes of the layers from this one on
from-here : (old now : SerialWorld) (bodies : List Known) (layers i : ℕ) → (h : HasAdded old now bodies layers i) → i < layers
    → let first = add_layer (table_of now) i (in_layer i bodies) in
    add_layers (table_of old) bodies (range_with_len 0 layers)
    ≡ behind h.made (followed first.refusal first (add_layers (table_with (table_of now) first.entries first.books) bodies (range_with_len (i + 1) (layers - (i + 1)))))
from-here old now bodies layers i h below =
    let left : layers - i ≡ suc (layers - (i + 1)) = omega arith in
    h.rest ∙ ap (λ (n : ℕ). behind h.made (add_layers (table_of now) bodies (range_with_len i n))) left

two-steps : (old : Table) (made later : List Entry) (books last : Books) → table_with (table_with old made books) later last ≡ table_with old (made ++ later) last
two-steps old made later books last = ap (λ (s : Scene). record old { scene = s; books = last }) (sym (fold-append after_entry old.scene made later))

pub added-more : (old now later : SerialWorld) (bodies part : List Known) (layers i : ℕ) (refusal : Option Refusal) → HasAdded old now bodies layers i → i < layers → part ≡ in_layer i bodies
    → Attempts (add_layer (table_of now) i part) now later refusal → refusal ≡ None → HasAdded old later bodies layers (i + 1)
added-more old now later bodies part layers i refusal h below are t e =
    let first = add_layer (table_of now) i (in_layer i bodies) in
    let try : Attempts first now later refusal = subst (λ (p : List Known). Attempts (add_layer (table_of now) i p) now later refusal) are t in
    let done : first.refusal ≡ None = sym try.refusal_is ∙ e in
    let left = range_with_len (i + 1) (layers - (i + 1)) in
    let books : later.books ≡ first.books = ap (λ (t : Table). t.books) try.after in
    record {
      made = h.made ++ first.entries;
      after =
          try.after
          ∙ (ap (λ (s : Table). table_with s first.entries first.books) h.after
          ∙ (two-steps (table_of old) h.made first.entries now.books first.books
          ∙ ap (λ (b : Books). table_with (table_of old) (h.made ++ first.entries) b) (sym books)));
      rest =
          from-here old now bodies layers i h below
          ∙ (ap (λ (o : Option Refusal). behind h.made (followed o first (add_layers (table_with (table_of now) first.entries first.books) bodies left))) done
          ∙ (ap (λ (s : Table). behind h.made (followed None first (add_layers s bodies left))) (sym try.after)
          ∙ ap (λ (es : List Entry). record (add_layers (table_of later) bodies left) { entries = es }) (sym (append_assoc h.made first.entries (add_layers (table_of later) bodies left).entries))));
      sound = try.sound;
      sizes = ap (λ (t : Table). t.world) try.after ∙ h.sizes;
    }

pub added-stop : (old now later : SerialWorld) (bodies part : List Known) (layers i : ℕ) (refusal : Option Refusal) (why : Refusal) → HasAdded old now bodies layers i → i < layers
    → part ≡ in_layer i bodies → Attempts (add_layer (table_of now) i part) now later refusal → refusal ≡ Some why
    → Attempts (add_layers (table_of old) bodies (range_with_len 0 layers)) old later (Some why)
added-stop old now later bodies part layers i refusal why h below are t e =
    let first = add_layer (table_of now) i (in_layer i bodies) in
    let try : Attempts first now later refusal = subst (λ (p : List Known). Attempts (add_layer (table_of now) i p) now later refusal) are t in
    let stopped : first.refusal ≡ Some why = sym try.refusal_is ∙ e in
    let all : add_layers (table_of old) bodies (range_with_len 0 layers) ≡ behind h.made first =
    from-here old now bodies layers i h below
    ∙ ap (λ (o : Option Refusal). behind h.made (followed o first (add_layers (table_with (table_of now) first.entries first.books) bodies (range_with_len (i + 1) (layers - (i + 1)))))) stopped in
    record {
      refusal_is = sym stopped ∙ sym (ap (λ (a : Attempt). a.refusal) all);
      after =
          try.after
          ∙ (ap (λ (s : Table). table_with s first.entries first.books) h.after
          ∙ (two-steps (table_of old) h.made first.entries now.books first.books
          ∙ ap (λ (a : Attempt). table_with (table_of old) a.entries a.books) (sym all)));
      sound = try.sound;
    }

pub added-all : (old now : SerialWorld) (bodies : List Known) (layers i : ℕ) → HasAdded old now bodies layers i → layers ≤ i → Attempts (add_layers (table_of old) bodies (range_with_len 0 layers)) old now None
added-all old now bodies layers i h end =
    let nothing : layers - i ≡ 0 = omega arith in
    let all : add_layers (table_of old) bodies (range_with_len 0 layers) ≡ record { entries = h.made; refusal = None; books = now.books } =
    h.rest
    ∙ (ap (λ (n : ℕ). behind h.made (add_layers (table_of now) bodies (range_with_len i n))) nothing
    ∙ ap (λ (es : List Entry). let a : Attempt = record { entries = es; refusal = None; books = now.books } in a) (append-nil h.made)) in
    record {
      refusal_is = sym (ap (λ (a : Attempt). a.refusal) all);
      after = h.after ∙ ap (λ (a : Attempt). table_with (table_of old) a.entries a.books) (sym all);
      sound = h.sound;
    }
