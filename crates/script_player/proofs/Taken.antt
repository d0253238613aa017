-- Which bodies a batch takes where nothing refuses it.
use Rattle.std.proofs.Common.{◌≡◌, ℕ, List, [], ◌∷◌, length, map, Option, Some, None, option_map, option_and_then, refl, ap, sym, ◌∙◌, arith, Bool, true, false, cond}
use Rattle.std.proofs.lemmas.List.{length-map}
use Rattle.scene_model.specs.declared.entry.Entry.{Entry}
use Rattle.scene_model.specs.declared.entry.Entry.TheVariants.{Mark}
use Rattle.scene_model.specs.Scene.{Scene}
use Rattle.scene_model.specs.Step.{after_entry}
use Rattle.reply_text.specs.declared.refusal.Refusal.{Refusal}
use Rattle.script_player.specs.declared.books.Known.{Known}
use Rattle.script_player.specs.Books.{Books, known_at, known_all, has_batch}
use Rattle.script_player.specs.Table.{Table}
use Rattle.script_player.specs.Taking.{mark_refusal, Marking, marking_on, marking, marks, Taking, taking}
use Rattle.script_player.proofs.Batching.{whole}
use Rattle.scene_model.specs.Need.{need}
use Rattle.reply_text.specs.declared.refusal.Refusal.TheVariants as refusals
use Rattle.script_player.specs.declared.books.Batch.{Batch}
use Rattle.script_player.specs.Attempt.{Attempt, refused}
use Rattle.script_player.specs.Batches.{keep_taken, prepare_known}

one_more_marked : (known : Known) (bodies : List Known) (o : Option Refusal) (m : Marking) → (marking_on known.id.index o m).refusal ≡ None
    → (m.refusal ≡ None → m.indexes ≡ map (λ k. k.id.index) bodies) → (marking_on known.id.index o m).indexes ≡ map (λ k. k.id.index) (known ∷ bodies)
one_more_marked known bodies None m e h = ap (λ (xs : List ℕ). known.id.index ∷ xs) (h e)
one_more_marked known bodies (Some refusal) m e h = absurd cc

all_marked : (bodies : List Known) (scene : Scene) (layer : ℕ) → (marking scene layer bodies).refusal ≡ None → (marking scene layer bodies).indexes ≡ map (λ k. k.id.index) bodies
all_marked [] scene layer e = refl
all_marked (known ∷ bodies) scene layer e =
    let after = after_entry scene (Mark known.id.index) in
    one_more_marked known bodies (mark_refusal scene layer known.id) (marking after layer bodies) e (all_marked bodies after layer)

-- where nothing refuses them, all bodies are taken
pub record AreTaken (bodies : List Known) (t : Taking) : Type 0 where
  pub indexes : t.indexes ≡ map (λ k. k.id.index) bodies
  pub entries : t.entries ≡ marks (map (λ k. k.id.index) bodies)

pub are_taken : (table : Table) (layer : ℕ) (bodies : List Known) → (taking table layer bodies).refusal ≡ None → AreTaken bodies (taking table layer bodies)
are_taken table layer bodies e =
    let w = whole table layer bodies e in
    let all = all_marked bodies table.scene layer w.all in
    record { indexes = ap (λ (t : Taking). t.indexes) w.is ∙ all; entries = ap (λ (t : Taking). t.entries) w.is ∙ ap marks all }

pub all_taken : (table : Table) (layer : ℕ) (bodies : List Known) → (taking table layer bodies).refusal ≡ None → length (taking table layer bodies).indexes ≡ length bodies
all_taken table layer bodies e =
    ap (λ (xs : List ℕ). length xs) (are_taken table layer bodies e).indexes ∙ length-map bodies (λ (k : Known). k.id.index)

one_more_known : (o : Option Known) (others : Option (List Known)) (bodies : List Known) (name : List ℕ) (names : List (List ℕ))
    → option_and_then (λ known. option_map (λ ks. known ∷ ks) others) o ≡ Some bodies
    → ((ks : List Known) → others ≡ Some ks → length ks ≡ length names) → length bodies ≡ length (name ∷ names)
one_more_known None others bodies name names e h = absurd cc
one_more_known (Some known) None bodies name names e h = absurd cc
one_more_known (Some known) (Some ks) bodies name names e h =
    let same : known ∷ ks ≡ bodies = cc in
    let own = h ks refl in
    let long = ap (λ (bs : List Known). length bs) same in
    omega (arith, own, long)

pub all_known : (books : Books) (names : List (List ℕ)) (bodies : List Known) → known_all books names ≡ Some bodies → length bodies ≡ length names
all_known books [] bodies e = let same : [] ≡ bodies = cc in sym (ap (λ (bs : List Known). length bs) same)
all_known books (name ∷ names) bodies e = one_more_known (known_at books name) (known_all books names) bodies name names e (λ ks f. all_known books names ks f)

-- ---- a prepare that is carried out

keep_makes : (table : Table) (batch : Batch) (made : List Entry) (o : Option Refusal) → (keep_taken table batch made o).refusal ≡ None
    → (o ≡ None) × ((keep_taken table batch made o).entries ≡ made)
keep_makes table batch made None e = (refl, refl)
keep_makes table batch made (Some refusal) e = absurd cc

named_makes : (table : Table) (named : Bool) (a : Attempt) → (cond named (refused table refusals.Batch) a).refusal ≡ None
    → (a.refusal ≡ None) × ((cond named (refused table refusals.Batch) a).entries ≡ a.entries)
named_makes table true a e = absurd cc
named_makes table false a e = (e, refl)

pub prepare_takes : (table : Table) (name : List ℕ) (layer : ℕ) (bodies : List Known) → (prepare_known table name layer (Some bodies)).refusal ≡ None
    → ((taking table layer bodies).refusal ≡ None) × ((prepare_known table name layer (Some bodies)).entries ≡ (taking table layer bodies).entries)
prepare_takes table name layer bodies e =
    let t = taking table layer bodies in
    let batch : Batch = record { name = name; layer = layer; indexes = t.indexes; nodes = need (length bodies) } in
    let named = named_makes table (has_batch table.books name) (keep_taken table batch t.entries t.refusal) e in
    let kept = keep_makes table batch t.entries t.refusal named.0 in
    (kept.0, named.1 ∙ kept.1)
