-- What a name stands for is what its create made, as the reply tells.
use Rattle.std.proofs.Common.{◌≡◌, ℕ, ◌+◌, true, false, ◌||◌, cond, List, [], ◌∷◌, ◌++◌, length, Option, Some, None, option_map, option_and_then, refl, ap, sym, subst, ◌∙◌, append_assoc, length-append, bytes_eq, inl, inr, arith}
use Rattle.std.specs.List.{remove, slice_get}
use Rattle.std.specs.Option.{option_map_or}
use Rattle.std.proofs.Math.Seq.{get_or-append_seam}
use Rattle.std.proofs.lemmas.Bool.{cases_Bool}
use Rattle.std.proofs.lemmas.List.Folds.{list_any-append}
use Rattle.std.proofs.lemmas.Option.{slice_get-get_or}
use Rattle.std.proofs.lemmas.Slice.Eq.{bytes_eq-Decides}
use Rattle.fixed_box.specs.declared.fix_box.FixBox.{FixBox}
use Rattle.body_ident.specs.Id.{id_of}
use Rattle.scene_model.specs.declared.entry.Entry.{Entry}
use Rattle.scene_model.specs.Scene.{place_at, next_index}
use Rattle.script_text.specs.declared.command.Command.{Command}
use Rattle.script_text.specs.declared.command.Command.TheVariants as commands
use Rattle.script_text.specs.declared.script.Script.{Script}
use Rattle.script_text.specs.Name.{is_among}
use Rattle.script_text.specs.Place.{place_from}
use Rattle.script_player.specs.declared.books.Known.{Known}
use Rattle.script_player.specs.Books.{Books, with_name, batch_place, known_at, known_all}
use Rattle.script_player.specs.Table.{Table, empty_table}
use Rattle.script_player.specs.Turn.{Turn, create_turn, turn, table_after}
use Rattle.script_player.specs.Report.{table_below}
use Rattle.script_player.specs.Standing.{Standing, table_at}
use Rattle.script_player.specs.Exchange.{exchanges, exchanges_at, named_by, known_by, all_known_by}
use Rattle.script_player.proofs.Stepwise.{IsStepwise, turn_steps}

-- what a name stands for, looked for name by name
abbrev find_known : List (List ℕ) → List (Option Known) → List ℕ → Option Known
find_known [] known name = None
find_known (own ∷ names) [] name = None
find_known (own ∷ names) (k ∷ known) name = cond (bytes_eq name own) k (find_known names known name)

middle : (front known : List (Option Known)) (k : Option Known) → slice_get (front ++ k ∷ known) (length front) ≡ Some k
middle front known k =
    let more = length-append front (k ∷ known) in
    slice_get-get_or (front ++ k ∷ known) (length front) k (omega (arith, more)) ∙ ap Some (get_or-append_seam front k known k)

known_is_found : (names : List (List ℕ)) (front known : List (Option Known)) (m : ℕ) (name : List ℕ) → m ≡ length front → length known ≡ length names
    → option_and_then (λ p. option_and_then (λ k. k) (slice_get (front ++ known) p)) (place_from m names name) ≡ find_known names known name
known_is_found [] front known m name e l = refl
known_is_found (own ∷ names) front [] m name e l = absurd (omega (arith, l))
known_is_found (own ∷ names) front (k ∷ known) m name e l = elim (cases_Bool (bytes_eq name own)) [
  | inl same ↦ rw same (ap (λ (i : ℕ). option_and_then (λ o. o) (slice_get (front ++ k ∷ known) i)) e ∙ ap (λ (o : Option (Option Known)). option_and_then (λ o. o) o) (middle front known k))
  | inr other ↦
      let longer = length-append front (k ∷ []) in
      let P : List (Option Known) → Type 0 = λ all. option_and_then (λ p. option_and_then (λ k. k) (slice_get all p)) (place_from (m + 1) names name) ≡ find_known names known name in
      rw other (subst P (append_assoc front (k ∷ []) known) (known_is_found names (front ++ k ∷ []) known (m + 1) name (omega (arith, longer, e)) (omega (arith, l))))
]

-- ---- one name more

found_behind : (names : List (List ℕ)) (known : List (Option Known)) (own : List ℕ) (k : Option Known) (name : List ℕ) → length known ≡ length names
    → find_known (names ++ own ∷ []) (known ++ k ∷ []) name ≡ cond (is_among names name) (find_known names known name) (cond (bytes_eq name own) k None)
found_behind [] [] own k name l = refl
found_behind [] (j ∷ known) own k name l = absurd (omega (arith, l))
found_behind (n ∷ names) [] own k name l = absurd (omega (arith, l))
found_behind (n ∷ names) (j ∷ known) own k name l = elim (cases_Bool (bytes_eq name n)) [
  | inl same ↦ rw same refl
  | inr other ↦ rw other (found_behind names known own k name (omega (arith, l)))
]

found_none : (names : List (List ℕ)) (known : List (Option Known)) (name : List ℕ) → is_among names name ≡ false → find_known names known name ≡ None
found_none [] known name h = refl
found_none (n ∷ names) [] name h = refl
found_none (n ∷ names) (k ∷ known) name h = elim (cases_Bool (bytes_eq name n)) [
  | inl same ↦ absurd (let e = rw same at h in cc)
  | inr other ↦ rw other (found_none names known name (rw other at h))
]

-- what names stand for, where those that are not among these are told by what comes later
abbrev found_or : List (List ℕ) → List (Option Known) → List ℕ → Option Known → Option Known
found_or names known name later = cond (is_among names name) (find_known names known name) later

new_name : (names : List (List ℕ)) (known : List (Option Known)) (own : List ℕ) (k : Option Known) (name : List ℕ) (later : Option Known) → length known ≡ length names
    → found_or (names ++ own ∷ []) (known ++ k ∷ []) name later ≡ found_or names known name (cond (bytes_eq name own) k later)
new_name names known own k name later l =
    let more : is_among (names ++ own ∷ []) name ≡ (is_among names name || (bytes_eq name own || false)) = list_any-append (bytes_eq name) names (own ∷ []) in
    elim (cases_Bool (is_among names name)) [
      | inl there ↦ rw (more, there, found_behind names known own k name l, there) refl
      | inr new ↦
          elim (cases_Bool (bytes_eq name own)) [
            | inl same ↦ rw (more, new, same, found_behind names known own k name l, new, same) refl
            | inr other ↦ rw (more, new, other) refl
          ]
    ]

-- a name that is there stands for what it did
old_name : (names : List (List ℕ)) (known : List (Option Known)) (own name : List ℕ) (first later : Option Known) → is_among names own ≡ true
    → found_or names known name later ≡ found_or names known name (cond (bytes_eq name own) first later)
old_name names known own name first later there = elim (cases_Bool (bytes_eq name own)) [
  | inl same ↦
      let own_name : name ≡ own = (bytes_eq-Decides name own).0 same in
      let here : is_among names name ≡ true = ap (is_among names) own_name ∙ there in
      rw here refl
  | inr other ↦ rw other refl
]

-- ---- the names of the books

abbrev IsPaired : Books → Type 0
IsPaired books = length books.known ≡ length books.names

named_paired : (books : Books) (own : List ℕ) (k : Option Known) → IsPaired books → IsPaired (with_name books own k)
named_paired books own k l = elim (cases_Bool (is_among books.names own)) [
  | inl there ↦ rw there l
  | inr new ↦ rw new (omega (arith, l, length-append books.known (k ∷ []), length-append books.names (own ∷ [])))
]

with_name_found : (books : Books) (own : List ℕ) (k : Option Known) (name : List ℕ) (later : Option Known) → IsPaired books
    → found_or (with_name books own k).names (with_name books own k).known name later ≡ found_or books.names books.known name (cond (bytes_eq name own) k later)
with_name_found books own k name later l = elim (cases_Bool (is_among books.names own)) [
  | inl there ↦ rw there (old_name books.names books.known own name k later there)
  | inr new ↦ rw new (new_name books.names books.known own k name later l)
]

-- ---- one command

abbrev KeepsNames : Books → List Entry → Books → Type 0
KeepsNames old entries new = (new.names ≡ old.names) × (new.known ≡ old.known)

spent_keeps : (b : Books) (o : Option ℕ) → KeepsNames b [] (option_map_or (λ place. record b { prepared = remove b.prepared place }) o b)
spent_keeps b None = (refl, refl)
spent_keeps b (Some place) = (refl, refl)

-- no other command than a create changes what names stand for
names_kept : IsStepwise KeepsNames
names_kept = record {
  none = λ b. (refl, refl);
  more = λ a b c xs ys h k. (k.0 ∙ h.0, k.1 ∙ h.1);
  change = λ b c index. (refl, refl);
  mark = λ b index. (refl, refl);
  unmark = λ b index. (refl, refl);
  join = λ b layer nodes indexes. (refl, refl);
  keep = λ b batch. (refl, refl);
  spend = λ b name. spent_keeps b (batch_place b name);
}

-- after a turn names stand for what they did, or for what its reply prints
pub record IsNamed (old : Books) (c : Command) (t : Turn) : Type 0 where
  pub paired : IsPaired t.books
  pub found : (name : List ℕ) (later : Option Known) → found_or t.books.names t.books.known name later ≡ found_or old.names old.known name (named_by name c t.reply later)

created_named : (table : Table) (own : List ℕ) (layer user : ℕ) (bounds : FixBox) (o : Option ℕ) → IsPaired table.books
    → IsNamed table.books (commands.Create own layer bounds user) (create_turn table own layer bounds user o)
created_named table own layer user bounds None l =
    record { paired = named_paired table.books own None l; found = λ name later. with_name_found table.books own None name later l }
created_named table own layer user bounds (Some index) l =
    let t = create_turn table own layer bounds user (Some index) in
    let k : Option Known = Some (record { id = id_of index ((place_at table.scene index).creations + 1); layer = layer }) in
    record { paired = named_paired table.books own k l; found = λ name later. with_name_found table.books own k name later l }

same_named : (old new : Books) (name : List ℕ) (later : Option Known) → KeepsNames old [] new → found_or new.names new.known name later ≡ found_or old.names old.known name later
same_named old new name later h = ap (λ (ns : List (List ℕ)). found_or ns new.known name later) h.0 ∙ ap (λ (ks : List (Option Known)). found_or old.names ks name later) h.1

same_paired : (old new : Books) → KeepsNames old [] new → IsPaired old → IsPaired new
same_paired old new h l = ap (λ (ks : List (Option Known)). length ks) h.1 ∙ l ∙ sym (ap (λ (ns : List (List ℕ)). length ns) h.0)

turn_named : (table : Table) (c : Command) → IsPaired table.books → IsNamed table.books c (turn table c)
turn_named table (commands.Create own layer bounds user) l = created_named table own layer user bounds (next_index table.scene) l
turn_named table c l =
    let h = turn_steps KeepsNames names_kept table c in
    record { paired = same_paired table.books (turn table c).books h l; found = λ name later. same_named table.books (turn table c).books name later h }

-- ---- command after command

below_named : (cs : List Command) (table : Table) (name : List ℕ) → IsPaired table.books
    → known_at (table_below table cs).books name ≡ found_or table.books.names table.books.known name (known_by (exchanges table cs) name)
below_named [] table name l =
    known_is_found table.books.names [] table.books.known 0 name refl l
    ∙ elim (cases_Bool (is_among table.books.names name)) [
      | inl there ↦ rw there refl
      | inr new ↦ rw (new, found_none table.books.names table.books.known name new) refl
    ]
below_named (c ∷ cs) table name l =
    let t = turn table c in
    let n = turn_named table c l in
    below_named cs (table_after table t) name n.paired ∙ n.found name (known_by (exchanges (table_after table t) cs) name)

-- what a name stands for, where a command stands
pub name_at : (script : Script) (at : Standing script) (name : List ℕ) → known_at (table_at script at).books name ≡ known_by (exchanges_at script at) name
name_at script at name = below_named at.above (empty_table script.world) name refl

-- and what several do
pub names_at : (script : Script) (at : Standing script) (names : List (List ℕ)) → known_all (table_at script at).books names ≡ all_known_by (exchanges_at script at) names
names_at script at [] = refl
names_at script at (name ∷ names) =
    let books = (table_at script at).books in
    let above = exchanges_at script at in
    ap (λ (o : Option Known). option_and_then (λ known. option_map (λ others. known ∷ others) (known_all books names)) o) (name_at script at name)
    ∙ ap (λ (o : Option (List Known)). option_and_then (λ known. option_map (λ others. known ∷ others) o) (known_by above name)) (names_at script at names)
