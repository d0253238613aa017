-- Bodies that are added layer after layer.
use Rattle.std.proofs.Common.{◌≡◌, ℕ, suc, ◌+◌, ◌-◌, ◌<◌, ◌≤◌, List, [], ◌∷◌, ◌++◌, Option, Some, None, refl, ap, sym, subst, ◌∙◌, append_assoc, arith}
use Rattle.std.specs.List.{range_with_len}
use Rattle.std.proofs.lemmas.List.{append-nil}
use Rattle.std.proofs.lemmas.List.Sums.{fold-append}
use Rattle.scene_model.specs.declared.entry.Entry.{Entry}
use Rattle.scene_model.specs.Scene.{Scene}
use Rattle.scene_model.specs.Shown.{after_shown}
use Rattle.reply_text.specs.declared.refusal.Refusal.{Refusal}
use Rattle.script_player.specs.declared.books.Known.{Known}
use Rattle.script_player.specs.Books.{Books}
use Rattle.script_player.specs.Table.{Table, table_with}
use Rattle.script_player.specs.Attempt.{Attempt}
use Rattle.script_player.specs.Batches.{add_layer, followed, in_layer, add_layers}
use Rattle.script_player.specs.UnderWay.{IsUnderWay}
use Rattle.script_player.specs.Shown.{shown_with, Tries}
use Rattle.script_player.proofs.GoingOn.{layer_goes_on, layer-same}

-- an attempt behind entries that were made before it
abbrev behind : List Entry → Attempt → Attempt
behind made a = record a { entries = made ++ a.entries }

-- the bodies of the first layers, so many, were added
pub record HasAdded (old now : Table) (bodies : List Known) (layers i : ℕ) : Type 0 where
  pub made : List Entry
  pub after : now ≡ shown_with old made now.books
  pub rest : add_layers old bodies (range_with_len 0 layers) ≡ behind made (add_layers now bodies (range_with_len i (layers - i)))
  pub under_way : IsUnderWay now

pub added_none : (table : Table) (bodies : List Known) (layers : ℕ) → IsUnderWay table → HasAdded table table bodies layers 0
added_none table bodies layers u = record {
  made = [];
  after = refl;
  rest = (let all : layers - 0 ≡ layers = omega arith in ap (λ (n : ℕ). add_layers table bodies (range_with_len 0 n)) (sym all));
  under_way = u;
}

pub still_under_way : (old now : Table) (bodies : List Known) (layers i : ℕ) → HasAdded old now bodies layers i → IsUnderWay now
still_under_way old now bodies layers i h = h.under_way

next_layer : (i left rest : ℕ) → left ≡ suc rest → range_with_len i left ≡ i ∷ range_with_len (i + 1) rest
next_layer i left rest e = ap (range_with_len i) e

-- what comes of the layers from this one on
from_here : (old now : Table) (bodies : List Known) (layers i : ℕ) → (h : HasAdded old now bodies layers i) → i < layers
    → let first = add_layer now i (in_layer i bodies) in
    add_layers old bodies (range_with_len 0 layers)
    ≡ behind h.made (followed first.refusal first (add_layers (table_with now first.entries first.books) bodies (range_with_len (i + 1) (layers - (i + 1)))))
from_here old now bodies layers i h below =
    let left : layers - i ≡ suc (layers - (i + 1)) = omega arith in
    h.rest ∙ ap (λ (ls : List ℕ). behind h.made (add_layers now bodies ls)) (next_layer i (layers - i) (layers - (i + 1)) left)

two_steps : (old : Table) (made later : List Entry) (books last : Books) → shown_with (shown_with old made books) later last ≡ shown_with old (made ++ later) last
two_steps old made later books last = ap (λ (s : Scene). record old { scene = s; books = last }) (sym (fold-append after_shown old.scene made later))

pub added_more : (old now later : Table) (bodies part : List Known) (layers i : ℕ) (refusal : Option Refusal) → HasAdded old now bodies layers i → i < layers → part ≡ in_layer i bodies
    → Tries (add_layer now i part) now later refusal → refusal ≡ None → HasAdded old later bodies layers (i + 1)
added_more old now later bodies part layers i refusal h below are t e =
    let first = add_layer now i (in_layer i bodies) in
    let try : Tries first now later refusal = subst (λ (p : List Known). Tries (add_layer now i p) now later refusal) are t in
    let done : first.refusal ≡ None = sym try.refusal_is ∙ e in
    let left = range_with_len (i + 1) (layers - (i + 1)) in
    let steps : table_with now first.entries first.books ≡ later =
    ap (λ (s : Scene). record now { scene = s; books = first.books }) (sym (layer-same now i (in_layer i bodies) now.scene)) ∙ sym try.after in
    let books : later.books ≡ first.books = ap (λ (t : Table). t.books) try.after in
    record {
      made = h.made ++ first.entries;
      after =
          try.after
          ∙ ap (λ (s : Table). shown_with s first.entries first.books) h.after
          ∙ two_steps old h.made first.entries now.books first.books
          ∙ ap (λ (b : Books). shown_with old (h.made ++ first.entries) b) (sym books);
      rest =
          from_here old now bodies layers i h below
          ∙ ap (λ (o : Option Refusal). behind h.made (followed o first (add_layers (table_with now first.entries first.books) bodies left))) done
          ∙ ap (λ (s : Table). behind h.made (followed None first (add_layers s bodies left))) steps
          ∙ ap (λ (es : List Entry). record (add_layers later bodies left) { entries = es }) (sym (append_assoc h.made first.entries (add_layers later bodies left).entries));
      under_way = subst IsUnderWay (sym try.after) (layer_goes_on now i (in_layer i bodies) h.under_way);
    }

pub added_stop : (old now later : Table) (bodies part : List Known) (layers i : ℕ) (refusal : Option Refusal) (why : Refusal) → HasAdded old now bodies layers i → i < layers
    → part ≡ in_layer i bodies → Tries (add_layer now i part) now later refusal → refusal ≡ Some why
    → Tries (add_layers old bodies (range_with_len 0 layers)) old later (Some why)
added_stop old now later bodies part layers i refusal why h below are t e =
    let first = add_layer now i (in_layer i bodies) in
    let try : Tries first now later refusal = subst (λ (p : List Known). Tries (add_layer now i p) now later refusal) are t in
    let stopped : first.refusal ≡ Some why = sym try.refusal_is ∙ e in
    let all : add_layers old bodies (range_with_len 0 layers) ≡ behind h.made first =
    from_here old now bodies layers i h below
    ∙ ap (λ (o : Option Refusal). behind h.made (followed o first (add_layers (table_with now first.entries first.books) bodies (range_with_len (i + 1) (layers - (i + 1)))))) stopped in
    record {
      refusal_is = sym stopped ∙ sym (ap (λ (a : Attempt). a.refusal) all);
      after =
          try.after
          ∙ ap (λ (s : Table). shown_with s first.entries first.books) h.after
          ∙ two_steps old h.made first.entries now.books first.books
          ∙ ap (λ (a : Attempt). shown_with old a.entries a.books) (sym all);
    }

pub added_all : (old now : Table) (bodies : List Known) (layers i : ℕ) → HasAdded old now bodies layers i → layers ≤ i → Tries (add_layers old bodies (range_with_len 0 layers)) old now None
added_all old now bodies layers i h end =
    let nothing : layers - i ≡ 0 = omega arith in
    let all : add_layers old bodies (range_with_len 0 layers) ≡ record { entries = h.made; refusal = None; books = now.books } =
    h.rest
    ∙ ap (λ (n : ℕ). behind h.made (add_layers now bodies (range_with_len i n))) nothing
    ∙ ap (λ (es : List Entry). let a : Attempt = record { entries = es; refusal = None; books = now.books } in a) (append-nil h.made) in
    record {
      refusal_is = sym (ap (λ (a : Attempt). a.refusal) all);
      after = h.after ∙ ap (λ (a : Attempt). shown_with old a.entries a.books) (sym all);
    }
