-- What the turns of a walk leave.
use Rattle.std.proofs.Common.{◌≡◌, ◌≢◌, ℕ, ◌+◌, ◌-◌, ◌<◌, ◌≤◌, ◌^◌, List, [], ◌∷◌, Bool, true, false, Option, Some, None, refl, ap, sym, ◌∙◌, subst, arith}
use Rattle.std.specs.Prelude.{◌==◌}
use Rattle.std.proofs.lemmas.Bool.{lt-ltb, false≢true, ltb-true, eqb-true}
use Rattle.std.proofs.lemmas.List.Elements.{Contains-append_left, Contains-push}
use Rattle.fixed_box.specs.declared.shape.Shape.{Shape}
use Rattle.word_map.specs.Limits.{IsConfig}
use Rattle.word_map.specs.declared.config.Config.{Config}
use Rattle.word_map.specs.declared.name.Name.{Name}
use Rattle.word_map.specs.declared.name.Name.TheVariants.{Child as ChildName}
use Rattle.core_state.specs.declared.item.Load.{Load}
use Rattle.core_state.specs.declared.view.View.{View}
use Rattle.core_state.specs.WalkRecord.{IsLoaded}
use Rattle.core_state.specs.Walking.{Query, Position, next_word, advance}
use Rattle.pass_table.specs.Bodies.{IsCurrent}
use Rattle.pass_table.specs.Turning.{AtMostOneStep, MadeBy, HasReached}
use Rattle.pass_table.specs.Labels.{SaysNew}
use Rattle.tree_query.specs.declared.finder.Finder.{Finder}
use Rattle.tree_query.specs.declared.walk.WalkStage.{WalkStage}
use Rattle.tree_query.specs.declared.walk.WalkStage.TheVariants.{Begin, Word, Child, LowX, LowY, LowZ, HighX, HighY, HighZ, End, Ended}
use Rattle.tree_query.specs.declared.walk.Walk.{Walk}
use Rattle.tree_query.specs.Finding.{room_of}
use Rattle.tree_query.specs.Walking.{WalksOn}
use Rattle.tree_query.specs.Collecting.{found_with, Trip, IsOnTrip, IsCollecting, Puts}
use Rattle.tree_query.specs.Answers.{SaysWalk}
use Rattle.tree_query.specs.stages.WalkPlaces.{IsNextLayer, IsSized, is_reading, is_at_side, IsAtPlace, KeepsPlan, KeepsWord}
use Rattle.tree_query.specs.stages.WalkTurns.{trip_of, IsOnWalk, IsUnderWalk, walk_left, label_under_way, is_past_lowest, walk_label_at, walk_label, IsWalkTurn}
use Rattle.tree_query.proofs.Trips.{trip-sizes, trip-on}
use Rattle.tree_query.proofs.Kept.{collecting-more, loads-fit}
use Rattle.tree_query.proofs.Labels.{says-inside}

-- ---- stages

pub plan-trans : (first before after : Walk) → KeepsPlan first before → KeepsPlan before after → KeepsPlan first after
plan-trans first before after one two = record {
  shape = two.shape ∙ one.shape;
  mask = two.mask ∙ one.mask;
  lowest = two.lowest ∙ one.lowest;
  layers = two.layers ∙ one.layers;
  slots = two.slots ∙ one.slots;
}

pub left-reading : (stage : WalkStage) (loads : ℕ) → is_reading stage ≡ true → walk_left stage loads ≡ (2 ^ 32 + 2) - loads
left-reading Begin loads reads = absurd (false≢true reads)
left-reading Ended loads reads = absurd (false≢true reads)
left-reading Word loads reads = refl
left-reading Child loads reads = refl
left-reading LowX loads reads = refl
left-reading LowY loads reads = refl
left-reading LowZ loads reads = refl
left-reading HighX loads reads = refl
left-reading HighY loads reads = refl
left-reading HighZ loads reads = refl
left-reading End loads reads = refl

-- the label of a walk under way
pub record IsLabel (walk : Walk) (stage : WalkStage) : Type 0 where
  pub main : Bool
  pub is : walk_label_at walk stage ≡ label_under_way (is_past_lowest walk) main
  pub word : main ≡ true → (stage ≡ Word) × (walk.slot ≡ walk.slots)

plain-label : (walk : Walk) (stage : WalkStage) → walk_label_at walk stage ≡ label_under_way (is_past_lowest walk) false → IsLabel walk stage
plain-label walk stage is = record { main = false; is = is; word = λ t. absurd (false≢true t) }

pub label-reading : (walk : Walk) (stage : WalkStage) → is_reading stage ≡ true → IsLabel walk stage
label-reading walk Begin reads = absurd (false≢true reads)
label-reading walk Ended reads = absurd (false≢true reads)
label-reading walk Word reads = record { main = walk.slot == walk.slots; is = refl; word = λ t. (refl, eqb-true walk.slot walk.slots t) }
label-reading walk Child reads = plain-label walk Child refl
label-reading walk LowX reads = plain-label walk LowX refl
label-reading walk LowY reads = plain-label walk LowY refl
label-reading walk LowZ reads = plain-label walk LowZ refl
label-reading walk HighX reads = plain-label walk HighX refl
label-reading walk HighY reads = plain-label walk HighY refl
label-reading walk HighZ reads = plain-label walk HighZ refl
label-reading walk End reads = plain-label walk End refl

-- each label of a walk under way is below 2
under-way-low : (past main : Bool) (last label : ℕ) → label_under_way past main ≡ Some last → label ≤ last → label < 2
under-way-low true main last label is below = let last_is : last ≡ 1 = some-same 1 last is in omega arith
  where
    some-same : (a b : ℕ) → Some a ≡ Some b → b ≡ a
    some-same a b same = cc
under-way-low false true last label is below = let last_is : last ≡ 0 = some-same 0 last is in omega arith
  where
    some-same : (a b : ℕ) → Some a ≡ Some b → b ≡ a
    some-same a b same = cc
under-way-low false false last label is below = absurd cc

pub says-low : (before after : Option ℕ) (past main : Bool) (says : ℕ → Type 0) → after ≡ label_under_way past main → ((label : ℕ) → label < 2 → says label) → SaysNew before after says
says-low before None past main says is all = tt
says-low before (Some last) past main says is all = λ label new below. all label (under-way-low past main last label (sym is) below)

-- labels that were reached stay so
grows : (past later main more : Bool) (label : ℕ) → (past ≡ true → later ≡ true) → (main ≡ true → later ≡ true) → HasReached (label_under_way past main) label → HasReached (label_under_way later more) label
grows true later main more label on passes reached = subst (λ (b : Bool). HasReached (label_under_way b more) label) (sym (on refl)) reached
grows false later true more label on passes reached = subst (λ (b : Bool). HasReached (label_under_way b more) label) (sym (passes refl)) (omega arith)
grows false later false more label on passes reached = absurd reached

-- ---- one load

-- where the walk was at this place, the word was the next one of the query, and with its value it comes to the place after it,
-- and the finder holds what it found
pub record Leads (c : Config) (query : Query) (before after : Walk) (held finder : Finder) (at : Position) (name : Name) (value : ℕ) : Type 0 where
  pub is : next_word at.rest at.spot ≡ Some name
  pub place : IsAtPlace c after (advance query at (record { name = name; value = value }))
  pub puts : Puts held finder (found_with query at.spot value)

-- the child whose bound is read was read before, or just now
pub data ReadsSide (before after : Walk) (name : Name) (value : ℕ) : Type 0 where
  as_before : is_at_side before.stage ≡ true → after.node ≡ before.node → after.child ≡ before.child → after.word ≡ before.word → ReadsSide before after name value
  just_now : name ≡ ChildName after.node after.child → value ≡ after.word → value ≢ 0 → ReadsSide before after name value

-- the layer does not fall, and past the main word it rises
pub record ClimbsLayers (before after : Walk) : Type 0 where
  pub above : before.layer ≤ after.layer
  pub within : before.layer ≤ before.layers → after.layer ≤ before.layers
  pub passes : before.stage ≡ Word → before.slot ≡ before.slots → before.layer < after.layer

module _ (before after : Walk) (held finder : Finder) (view next : View) (name : Name) (value : ℕ) (under : IsUnderWalk before held view) (few : held.loads < 2 ^ 32)
    (was : is_reading before.stage ≡ true) (plan : KeepsPlan before after) (climbs : ClimbsLayers before after) (count : finder.loads ≡ held.loads + 1) (room : room_of finder ≡ room_of held)
    (walks : WalksOn view next name value) (step : AtMostOneStep view next) (made : MadeBy view next None) (side : is_at_side after.stage ≡ true → ReadsSide before after name value)
    (leads : (c : Config) (query : Query) (at : Position) → query.shape ≡ before.shape → IsSized c before → IsAtPlace c before at → Leads c query before after held finder at name value) where
  module _ (start : View) (sized : IsSized start.config before) (h : IsOnWalk start before held view) where
    lead : Leads start.config h.query before after held finder h.at name value
    lead = leads start.config h.query h.at h.collecting.asks sized h.place

    abbrev trip : Trip
    trip = trip_of start h.number h.first h.query

    went-side : ReadsSide before after name value → IsLoaded next.walk.loads (ChildName after.node after.child) after.word × (after.word ≢ 0)
    went-side (as_before s n k w) =
        let was_loaded = h.loaded s in (
          subst (λ (l : Load). IsLoaded next.walk.loads l.name l.value) (λ i. record { name = ChildName (sym n i) (sym k i); value = sym w i })
              (subst (λ (l : List Load). IsLoaded l (ChildName before.node before.child) before.word) (sym walks.loads)
              (Contains-append_left view.walk.loads (record { name = name; value = value } ∷ []) (record { name = ChildName before.node before.child; value = before.word }) was_loaded.0)),
          λ zero_is. was_loaded.1 (sym w ∙ zero_is),
        )
    went-side (just_now n v some) = (
      subst (λ (l : Load). IsLoaded next.walk.loads l.name l.value) (λ i. record { name = n i; value = v i })
          (subst (λ (l : List Load). IsLoaded l name value) (sym walks.loads) (Contains-push view.walk.loads (record { name = name; value = value }))),
      λ zero_is. some (v ∙ zero_is),
    )

    went : IsOnWalk start after finder next
    went = record {
      number = h.number;
      first = h.first;
      pass = h.pass;
      query = h.query;
      asks = h.asks ∙ sym plan.mask;
      at = advance h.query h.at (record { name = name; value = value });
      place = lead.place;
      collecting =
          subst (λ (s : Shape). IsCollecting trip s finder next (advance h.query h.at (record { name = name; value = value }))) (sym plan.shape)
          (collecting-more trip before.shape held finder view next h.at (advance h.query h.at (record { name = name; value = value })) (found_with h.query h.at.spot value) 1 h.collecting
          (trip-on trip view next h.at name value h.collecting.on lead.is walks) lead.puts count);
      loaded = λ s. went-side (side s);
      above = let a = h.above in let b = climbs.above in let same = plan.lowest in omega arith;
      within = let a = climbs.within (subst (λ (n : ℕ). before.layer ≤ n) (sym sized.layers) h.within) in subst (λ (n : ℕ). after.layer ≤ n) sized.layers a;
    }

  abbrev now : IsOnWalk under.start before held view
  now = under.goes.reads was

  reads-after : is_reading after.stage ≡ true
  reads-after = (lead under.start under.goes.sized now).place.reads

  past-on : is_past_lowest before ≡ true → is_past_lowest after ≡ true
  past-on past = let low = ltb-true before.lowest before.layer past in let above = climbs.above in let same = plan.lowest in lt-ltb after.lowest after.layer (omega arith)

  pub reading-turn : IsWalkTurn before after held finder view next
  reading-turn =
      let old = label-reading before before.stage was in
      let new = label-reading after after.stage reads-after in
      record {
        step = step;
        made = made;
        fewer = let a = left-reading before.stage held.loads was in let b = left-reading after.stage finder.loads reads-after in omega arith;
        keeps = λ room_was first start going. record {
          plan = plan-trans first before after going.plan plan;
          sized = record { layers = plan.layers ∙ going.sized.layers; slots = plan.slots ∙ going.sized.slots };
          lowest = subst (λ (m : ℕ). IsNextLayer m start.config.layers 0 after.lowest) (sym plan.mask) (subst (IsNextLayer before.mask start.config.layers 0) (sym plan.lowest) going.lowest);
          roomy = room ∙ going.roomy;
          fits = going.fits;
          before = λ e. absurd (false≢true (sym (ap is_reading e) ∙ reads-after));
          reads = λ t. went start going.sized (going.reads was);
          ended = λ e. absurd (false≢true (sym (ap is_reading e) ∙ reads-after));
        };
        labelled = λ label reached.
            subst (λ (o : Option ℕ). HasReached o label) (sym new.is)
            (grows (is_past_lowest before) (is_past_lowest after) old.main new.main label past-on
            (λ main.
            let is = old.word main in
            let less = climbs.passes is.0 is.1 in
            let above = now.above in
            let same = plan.lowest in lt-ltb after.lowest after.layer (omega arith))
            (subst (λ (o : Option ℕ). HasReached o label) old.is reached));
        says = λ room_was first start going.
            let on = went start going.sized (going.reads was) in
            says-low (walk_label before) (walk_label after) (is_past_lowest after) new.main (SaysWalk before.mask start next) new.is
            (λ label low. says-inside before.mask start next on.number on.first label on.pass on.collecting.on.walked low);
      }

-- ---- what a turn may ask

module _ (walk : Walk) (finder : Finder) (view : View) (under : IsUnderWalk walk finder view) (was : is_reading walk.stage ≡ true) where
  abbrev on : IsOnWalk under.start walk finder view
  on = under.goes.reads was

  abbrev on_trip : IsOnTrip (trip_of under.start on.number on.first on.query) view on.at
  on_trip = on.collecting.on

  -- the pass walks
  pub walks-on : view.walk.is_on ≡ true
  walks-on = on_trip.walking.on

  pub sizes-on : view.config ≡ under.start.config
  sizes-on = trip-sizes (trip_of under.start on.number on.first on.query) view on.at on_trip

  -- its loads are few
  pub loads-few : ∥ IsCurrent view ∥₁ → IsConfig view.config → finder.loads < 2 ^ 32
  loads-few current limits =
      let few = loads-fit (trip_of under.start on.number on.first on.query) view on.at on_trip current limits in
      let loads = on.collecting.kept.loads in
      omega arith

-- where the word that is next stays, no layer is left
pub stays-climbing : (before after : Walk) (stage : WalkStage) → before.stage ≡ stage → ¬ (stage ≡ Word) → KeepsWord before after → ClimbsLayers before after
stays-climbing before after stage is other keeps = record {
  above = let same = keeps.layer in omega arith;
  within = λ low. let same = keeps.layer in omega arith;
  passes = λ word. absurd (other (sym is ∙ word));
}
