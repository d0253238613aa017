-- What a pass knows after a step.
use Rattle.std.proofs.Common.{◌≡◌, ◌≢◌, ℕ, List, ◌∷◌, ◌++◌, false, None, subst, append_assoc, ap, sym, ◌∙◌, refl}
use Rattle.std.specs.Prelude.{All}
use Rattle.std.proofs.lemmas.List.{append-nil}
use Rattle.std.proofs.lemmas.List.Elements.{All-head}
use Rattle.std.proofs.lemmas.Option.{same_Some}
use Rattle.word_map.specs.declared.config.Config.{Config}
use Rattle.word_map.specs.declared.name.Name.{Name}
use Rattle.word_map.specs.declared.name.Name.TheVariants.{Lock, Update}
use Rattle.word_map.specs.Layout.{name_of}
use Rattle.core_state.specs.declared.item.Item.{Item}
use Rattle.core_state.specs.declared.view.View.{View}
use Rattle.core_state.specs.Log.{IsPrefix}
use Rattle.core_state.specs.Looking.{MayLook, look}
use Rattle.core_state.specs.Seats.{visitor_of, joined_view}
use Rattle.core_state.specs.Kind.{Kind, Asking, Step, learned, found_by, left_by, item_of, gained_by, log_after}
use Rattle.core_state.proofs.Prefixes.{IsPrefix-trans}
use Rattle.core_state.proofs.Forming.{unspent_pass}
use Rattle.pass_table.specs.Stepping.{step_by, Stepped}
use Rattle.core_state.specs.Guards.{IsQuiet}
use Rattle.core_state.specs.Operation.{stores}
use Rattle.core_state.specs.Quietly.{KnowsQuietly}
use Rattle.core_state.proofs.Guarding.{joined-unquiet, lock-quiet}
use Rattle.core_state.proofs.Quiet.{in_first, in_second, append_cut, one_cut, no_cut}
use Rattle.core_state.proofs.Steps.{gained-unstored, Gains, nothing, its_item, gains}
use Rattle.pass_table.specs.Knowing.{IsOthers, KnowsMore, StoresAlone, Looked, MeetsWith}
use Rattle.pass_table.proofs.Keeping.{All-second}
use Rattle.pass_table.proofs.Leaving.{stepped-named}

-- the kind leaves the view as it was, but for what is known
abbrev pub IsPlain : Kind → Type 0
IsPlain kind = (view : View) (name : Name) (found first second : ℕ) → kind.leaves view name found first second ≡ view

module _ (asks : Asking) (kind : Kind) (view next : View) (name : Name) (first second found : ℕ) (stepped : Stepped asks kind view name first second found next) where
  abbrev made : Step
  made = step_by stepped.seat view stepped.number name first second

  -- what is known goes on from what was known
  pub known-more : IsPrefix view.known next.known
  known-more =
      let gained = gained_by kind stepped.before made in (
        stepped.since ++ gained,
        ap (λ (v : View). v.known) stepped.leaves ∙ (ap (λ (l : List Item). l ++ gained) stepped.learns ∙ append_assoc view.known stepped.since gained),
      )

  -- what came since was stored by others
  pub came-others : (early later : List Item) (item : Item) → stepped.since ≡ early ++ item ∷ later → IsOthers view (view.known ++ early) item
  came-others early later item parts =
      let sizes : stepped.before.config ≡ view.config =
      sym (stepped.stands.formed.views stepped.seat view stepped.allowed.at (unspent_pass view.role stepped.number stepped.allowed.pass)).config
      in
      record {
        foreign = λ own.
            All-head (λ (i : Item). i.pass ≢ stepped.number) item later
            (All-second (λ (i : Item). i.pass ≢ stepped.number) early (item ∷ later) (subst (λ (l : List Item). All (λ (i : Item). i.pass ≢ stepped.number) l) parts stepped.foreign))
            (same_Some item.pass stepped.number (sym own ∙ stepped.allowed.pass));
        quiet = subst (λ (c : Config). IsQuiet c view (view.known ++ early) item) sizes (stepped.quiet early later item parts);
      }

  pub knows-more : IsPlain kind → ((word operand : ℕ) → stores kind.operation word operand ≡ false) → KnowsMore view next
  knows-more plain loads =
      let after = log_after kind stepped.before made in
      let left : next ≡ record view { known = after; joined = None } =
      stepped.leaves ∙
      ap (λ (v : View). record v { config = view.config; role = view.role; known = after; joined = None }) (plain (learned stepped.before made) name (found_by stepped.before made) first second)
      in
      let known : next.known ≡ after = ap (λ (v : View). v.known) stepped.leaves in
      let same : after ≡ stepped.before.log =
      ap (λ (l : List Item). stepped.before.log ++ l) (gained-unstored kind stepped.before made (loads (found_by stepped.before made) first)) ∙ append-nil stepped.before.log
      in
      record {
        since = stepped.since;
        known = known ∙ (same ∙ stepped.learns);
        others = came-others;
        rest = left ∙ ap (λ (l : List Item). record view { known = l; joined = None }) (sym known);
      }

-- what the step of a look tells
pub looked : (view next : View) (found : ℕ) → Stepped MayLook look view Update 0 0 found next → Looked view next
looked view next found stepped = record {
  found = found;
  step = stepped;
  whole = ap (λ (v : View). v.known) stepped.leaves ∙ append-nil stepped.before.log;
  more = knows-more MayLook look view next Update 0 0 found stepped (λ v n f a b. refl) (λ word operand. refl);
}

-- the look of a meeting, at the place of a word: the pass made it after it was joined by a visitor of the other
pub met-look : (key c : Config) (view other visitor joined next : View) (place found : ℕ) → key ≡ c → name_of c place ≡ Update → visitor ≡ visitor_of other → joined ≡ joined_view view visitor
    → Stepped MayLook look joined (name_of key place) 0 0 found next → Stepped MayLook look (joined_view view other) Update 0 0 found next
met-look key c view other visitor joined next place found keyed named left joins stepped =
    subst (λ (v : View). Stepped MayLook look v Update 0 0 found next) (joins ∙ ap (joined_view view) left)
    (stepped-named MayLook look look joined next key c place 0 0 found Update keyed named refl stepped)

-- a look after two met tells that what it knows goes on from what either knew
pub meets-with : (view other next : View) → Looked (joined_view view other) next → MeetsWith view other next
meets-with view other next look_made =
    let joined = joined_view view other in
    let step = look_made.step in
    let sound = step.stands.formed.views step.seat joined step.allowed.at (unspent_pass joined.role step.number step.allowed.pass) in
    let own = IsPrefix-trans view.known joined.known next.known sound.joined.0 (look_made.more.since, look_made.more.known) in
    let sizes : step.before.config ≡ view.config = sym sound.config in
    record {
      more = record {
        since = own.0;
        known = own.1;
        others = λ early later item parts.
            let split : step.before.log ≡ (view.known ++ early) ++ item ∷ later =
            sym look_made.whole ∙ (own.1 ∙ (ap (λ (l : List Item). view.known ++ l) parts ∙ sym (append_assoc view.known early (item ∷ later))))
            in
            let alone = step.alone early later item split in
            record {
              foreign = λ same. alone.0 (same_Some item.pass step.number (sym same ∙ step.allowed.pass));
              quiet = subst (λ (c : Config). IsQuiet c view (view.known ++ early) item) sizes (joined-unquiet step.before.config view other (view.known ++ early) item alone.1);
            };
        rest = look_made.more.rest;
      };
      theirs = IsPrefix-trans other.known joined.known next.known sound.joined.1 (look_made.more.since, look_made.more.known);
      looked = look_made;
    }

-- ---- what a pass stores itself

-- a step stores its word alone, and where that is a lock's it comes quietly
module _ (asks : Asking) (kind : Kind) (view next : View) (name : Name) (first second found : ℕ) (stepped : Stepped asks kind view name first second found next) where
  abbrev one_made : Step
  one_made = step_by stepped.seat view stepped.number name first second

  abbrev one_gained : List Item
  one_gained = gained_by kind stepped.before one_made

  one_known : next.known ≡ view.known ++ (stepped.since ++ one_gained)
  one_known = ap (λ (v : View). v.known) stepped.leaves ∙ (ap (λ (l : List Item). l ++ one_gained) stepped.learns ∙ append_assoc view.known stepped.since one_gained)

  own_name : (front later : List Item) (item : Item) → one_gained ≡ front ++ item ∷ later → Gains kind stepped.before one_made → item.name ≡ name
  own_name front later item q (nothing e f) = absurd (no_cut item front later (sym e ∙ q))
  own_name front later item q (its_item stored e) = ap (λ (it : Item). it.name) (one_cut (item_of kind one_made (left_by kind stepped.before one_made)) item front later (sym e ∙ q))

  pub step-alone : StoresAlone view next name
  step-alone = record {
    since = stepped.since ++ one_gained;
    known = one_known;
    own = λ early later item parts mine.
        elim (append_cut stepped.since one_gained early later item parts) [
          | in_first rest p ↦ absurd ((came-others asks kind view next name first second found stepped early rest item p).foreign mine)
          | in_second front p q ↦ own_name front later item q (gains kind stepped.before one_made)
        ];
  }

  pub lock-step-quiet : (lock : ℕ) → name ≡ Lock lock → KnowsQuietly view next
  lock-step-quiet lock of_lock = record {
    since = stepped.since ++ one_gained;
    known = one_known;
    quiet = λ early later item parts.
        elim (append_cut stepped.since one_gained early later item parts) [
          | in_first rest p ↦ (came-others asks kind view next name first second found stepped early rest item p).quiet
          | in_second front p q ↦ lock-quiet view.config view (view.known ++ early) item lock (own_name front later item q (gains kind stepped.before one_made) ∙ of_lock)
        ];
  }
