-- How the bodies of a batch that is given up are unmarked.
use Rattle.std.specs.Prelude.{All, flat_map}
use Rattle.std.proofs.Common.{◌≡◌, ℕ, zero, suc, ◌+◌, ◌<◌, List, [], ◌∷◌, ◌++◌, true, false, Some, None, Contains, AllPairs, length, map, take, drop, get_or, append_assoc, refl, ap, sym, ◌∙◌, subst, arith}
use Rattle.std.proofs.lemmas.List.{append-nil, length-append, length-map, length-take-le, map-append}
use Rattle.std.proofs.lemmas.List.Elements.{All-head, Contains-append_right}
use Rattle.scene_model.specs.declared.entry.Entry.{Entry}
use Rattle.scene_model.specs.declared.entry.Entry.TheVariants.{Unmark}
use Rattle.word_map.specs.declared.config.Config.{Config}
use Rattle.word_map.specs.declared.name.Name.TheVariants.{Phase, LocA}
use Rattle.word_map.specs.Names.{stripe_of}
use Rattle.core_state.specs.declared.view.Mode.TheVariants.{Write}
use Rattle.core_state.specs.declared.view.Marked.{Marked}
use Rattle.core_state.specs.declared.view.Batch.{Batch}
use Rattle.core_state.specs.declared.view.View.{View}
use Rattle.core_state.specs.View.{IsPass}
use Rattle.core_state.specs.Event.{takes_back, unmarks, of_batches}
use Rattle.core_state.specs.Batches.{MayTakeBack, take_back, MayUnmark, unmark, change_marked, without_marked}
use Rattle.core_state.proofs.Beginning.{contains_first}
use Rattle.core_batch.proofs.Mapped.{AreOtherBodies, own-marks}
use Rattle.pass_table.specs.Stepping.{Stored}
use Rattle.pass_table.specs.Turning.{AtMostOneStep, MadeBy}
use Rattle.pass_table.specs.TakeTurns.{taking_of, IsTaking}
use Rattle.pass_table.specs.Holding.{LetGo}
use Rattle.pass_table.proofs.Keeping.{All-second}
use Rattle.pass_table.proofs.Knowing.{step-alone}
use Rattle.pass_table.proofs.Turning.{one-step}
use Rattle.pass_table.proofs.Calling.{stores-word, stored-made}
use Rattle.free_list.proofs.Pool.{now-by}
use Rattle.batch_add.specs.declared.kept_batch.KeptBatch.{KeptBatch}
use Rattle.batch_add.specs.declared.giving_up.GiveStage.{GiveStage}
use Rattle.batch_add.specs.declared.giving_up.GiveStage.TheVariants.{Striping, Striped, Cleared, Unmarked, Bare, Locking, Locked, Next, Headed, Linked, Given, Counted}
use Rattle.pass_table.specs.Work.{HasWorked, begun as begun_work}
use Rattle.pass_table.proofs.WorkLater.{worked-sizes, worked-batches, worked-loose, worked-written, worked-pass}
use Rattle.batch_add.specs.stages.Keeping.{index_at, IsKept, IsBegunFor}
use Rattle.batch_add.specs.stages.GivingUp.{WorksFree, WorksUnder, unmark_entries, with_marks, unplaced, unmarking_work, IsAtBody, UnderStripe, AtGiving, IsGivingUp, ComesNext}
use Rattle.batch_add.specs.stages.GivingLater.{under-stripe}
use Rattle.batch_add.specs.stages.GiveSteps.{HasUnmarked}
use Rattle.pass_table.proofs.Working.{worked-begun, worked-loosely}
use Rattle.batch_add.proofs.GiveLists.{body-gone, body-cleared}
use Rattle.batch_add.proofs.GiveWork.{under-released, under-stored, under-made}

-- ---- the body that is next

-- its index is the one that is kept
index_of : (gone : List Marked) (m : Marked) (later : List Marked) (items : List ℕ) (n : ℕ) → map (λ x. x.index) (gone ++ m ∷ later) ≡ take n items
    → get_or items (length gone) 0 ≡ m.index
index_of [] m later items zero same = absurd cc
index_of [] m later [] (suc n) same = absurd cc
index_of [] m later (b ∷ items) (suc n) same = sym (ap (λ (l : List ℕ). get_or l 0 0) same)
index_of (g ∷ gone) m later items zero same = absurd cc
index_of (g ∷ gone) m later [] (suc n) same = absurd cc
index_of (g ∷ gone) m later (b ∷ items) (suc n) same = index_of gone m later items n (ap (λ (l : List ℕ). drop 1 l) same)

module _ (kept : KeptBatch) (batch : Batch) (keeps : IsKept kept batch) where
  -- as many bodies are marked as is kept
  pub marked-many : length batch.marked ≡ kept.marked
  marked-many =
      sym (length-map batch.marked (λ (m : Marked). m.index))
      ∙ (ap (λ (l : List ℕ). length l) keeps.indexes
      ∙ length-take-le kept.marked kept.indexes.items keeps.room)

  -- and of nodes
  pub nodes-many : length batch.nodes ≡ kept.node_count
  nodes-many = ap (λ (l : List ℕ). length l) keeps.nodes ∙ length-take-le kept.node_count kept.nodes.items keeps.node_room

  module _ (done : ℕ) (at : IsAtBody batch done) where
    pub body-index : index_at kept done ≡ at.m.index
    body-index =
        ap (λ (n : ℕ). index_at kept n) (sym at.many)
        ∙ index_of at.gone at.m at.later kept.indexes.items kept.marked (ap (λ (l : List Marked). map (λ (m : Marked). m.index) l) (sym at.parts) ∙ keeps.indexes)

    pub body-less : done < kept.marked
    body-less =
        let all : length batch.marked ≡ length at.gone + suc (length at.later) = ap (λ (l : List Marked). length l) at.parts ∙ length-append at.gone (at.m ∷ at.later) in
        let many = marked-many in
        let here = at.many in
        omega arith

    -- there is room for it
    pub body-room : done < length kept.indexes.items
    body-room = let less = body-less in let room = keeps.room in omega arith

    of_body : (P : Marked → Type 0) → All P batch.marked → P at.m
    of_body P all = All-head P at.m at.later (All-second P at.gone (at.m ∷ at.later) (subst (All P) at.parts all))

    pub body-placed : at.m.is_placed ≡ kept.are_placed
    body-placed = of_body (λ (m : Marked). m.is_placed ≡ kept.are_placed) keeps.placed

    pub body-below : (most : ℕ) → All (λ (m : Marked). m.index < most) batch.marked → at.m.index < most
    body-below most below = of_body (λ (m : Marked). m.index < most) below

-- ---- a body is unmarked

-- the turn that takes its location back
module _ (view next : View) (index : ℕ) (stored : Stored MayTakeBack take_back view (LocA index) 0 next) where
  pub back-step : AtMostOneStep view next
  back-step = one-step MayTakeBack take_back view next (LocA index) 0 0 stored.0 stored.1 (λ before after steps. of_batches (takes_back steps))

  pub back-made : (number : ℕ) → IsPass view number → MadeBy view next None
  back-made number pass = stored-made MayTakeBack take_back view next (LocA index) 0 refl stored number pass

-- and the one that unmarks it
module _ (view next : View) (index : ℕ) (stored : Stored MayUnmark unmark view (Phase index) 0 next) where
  pub unmark-step : AtMostOneStep view next
  unmark-step = one-step MayUnmark unmark view next (Phase index) 0 0 stored.0 stored.1 (λ before after steps. of_batches (unmarks steps))

  pub unmark-made : (number : ℕ) → IsPass view number → MadeBy view next (Some (record { pass = number; entry = Unmark index }))
  unmark-made number pass = stored-made MayUnmark unmark view next (Phase index) 0 refl stored number pass

module _ (start : View) (before : List Batch) (batch : Batch) (after : List Batch) (kept : KeptBatch) (begun : IsBegunFor kept start before batch after) (view : View) where
  -- the index is one of the world
  pub index-named : (c : Config) → view.config ≡ c → view.config ≡ start.config → (done index : ℕ) → IsAtBody batch done → index ≡ index_at kept done → index < c.bodies
  index-named c sizes same done index at is =
      subst (λ (n : ℕ). n < c.bodies) (sym (is ∙ body-index kept batch begun.keeps done at))
      (subst (λ (s : Config). at.m.index < s.bodies) (sym same ∙ sizes) (body-below kept batch begun.keeps done at start.config.bodies begun.below))

  -- and so is its stripe
  pub stripe-is : (c : Config) → view.config ≡ c → view.config ≡ start.config → (done stripe : ℕ) (at : IsAtBody batch done) → stripe ≡ stripe_of c (index_at kept done)
      → stripe ≡ stripe_of start.config at.m.index
  stripe-is c sizes same done stripe at is = is ∙ (λ i. stripe_of ((sym sizes ∙ same) i) (body-index kept batch begun.keeps done at i))

  module _ (done : ℕ) (at : IsAtBody batch done) where
    abbrev m : Marked
    m = at.m

    -- where its location is taken back
    module _ (work : UnderStripe start before batch after view at.m at.gone (at.m ∷ at.later)) where
      placed_batches : view.batches ≡ before ++ with_marks batch (at.m ∷ at.later) ∷ after
      placed_batches = worked-batches start view _ work.worked

      pub asks-back : MayTakeBack view (LocA at.m.index) 0 0
      asks-back = record {
        batch = with_marks batch (at.m ∷ at.later);
        m = at.m;
        has = record {
          among =
              subst (λ (l : List Batch). Contains l (with_marks batch (at.m ∷ at.later))) (sym placed_batches)
              (Contains-append_right before (with_marks batch (at.m ∷ at.later) ∷ after) (with_marks batch (at.m ∷ at.later)) (contains_first (with_marks batch (at.m ∷ at.later)) after));
          marked = contains_first at.m at.later;
        };
        names = refl;
        stripe = under-stripe start view _ begun.rest at.m.index work;
        none = refl;
      }

      module _ (next : View) (stored : Stored MayTakeBack take_back view (LocA at.m.index) 0 next) where
        back_once : AllPairs AreOtherBodies (flat_map (λ (b : Batch). b.marked) (before ++ with_marks batch (at.m ∷ at.later) ∷ after))
        back_once =
            subst (λ (l : List Batch). AllPairs AreOtherBodies (flat_map (λ (b : Batch). b.marked) l)) placed_batches
            (own-marks stored.1.before stored.1.stands.laws.bodies stored.1.seat stored.1.number view stored.1.allowed.at stored.1.allowed.pass)

        back_left : next ≡ record view { known = next.known; joined = None; call = view.call; batches = before ++ with_marks batch (unplaced at.m ∷ at.later) ∷ after; loose = start.loose; written = start.written }
        back_left =
            now-by MayTakeBack take_back view next (LocA at.m.index) 0 0 stored.0 stored.1
            ∙ (λ i. record view {
              known = next.known;
              joined = None;
              batches = (ap (change_marked at.m.index (λ u. record u { is_placed = false })) placed_batches ∙ body-cleared before batch after at.m at.later back_once) i;
              loose = worked-loose start view _ work.worked i;
              written = worked-written start view _ work.worked i;
            })

        pub back-taken : UnderStripe start before batch after next at.m at.gone (unplaced at.m ∷ at.later)
        back-taken =
            subst (λ t. WorksUnder (stripe_of start.config at.m.index) start next (record (unmarking_work start before batch after at.gone (unplaced at.m ∷ at.later)) { task = t })) work.worked.doing
            (under-stored start view next (unmarking_work start before batch after at.gone (at.m ∷ at.later)) (LocA at.m.index) 0 view.call (before ++ with_marks batch (unplaced at.m ∷ at.later) ∷ after) start.loose start.written
            (stores-word MayTakeBack take_back view next (LocA at.m.index) 0 refl stored) back_left (stripe_of start.config at.m.index)
            (back-made view next at.m.index stored work.worked.adds.number (worked-pass start view _ work.worked)) refl
            (step-alone MayTakeBack take_back view next (LocA at.m.index) 0 0 stored.0 stored.1) work)

    -- one that has none may be unmarked
    pub has-none : at.m.is_placed ≡ false → UnderStripe start before batch after view at.m at.gone (at.m ∷ at.later) → UnderStripe start before batch after view at.m at.gone (unplaced at.m ∷ at.later)
    has-none none work =
        subst (λ (x : Marked). UnderStripe start before batch after view at.m at.gone (x ∷ at.later)) (λ i. record m { is_placed = none i }) work

    module _ (work : UnderStripe start before batch after view at.m at.gone (unplaced at.m ∷ at.later)) where
      cleared_batches : view.batches ≡ before ++ with_marks batch (unplaced at.m ∷ at.later) ∷ after
      cleared_batches = worked-batches start view _ work.worked

      pub asks-unmark : MayUnmark view (Phase at.m.index) 0 0
      asks-unmark = record {
        batch = with_marks batch (unplaced at.m ∷ at.later);
        m = unplaced at.m;
        has = record {
          among =
              subst (λ (l : List Batch). Contains l (with_marks batch (unplaced at.m ∷ at.later))) (sym cleared_batches)
              (Contains-append_right before (with_marks batch (unplaced at.m ∷ at.later) ∷ after) (with_marks batch (unplaced at.m ∷ at.later))
              (contains_first (with_marks batch (unplaced at.m ∷ at.later)) after));
          marked = contains_first (unplaced at.m) at.later;
        };
        names = refl;
        stripe = under-stripe start view _ begun.rest at.m.index work;
        idle = work.worked.doing;
        unplaced = refl;
        out = refl;
      }

      module _ (next : View) (stored : Stored MayUnmark unmark view (Phase at.m.index) 0 next) where
        unmark_once : AllPairs AreOtherBodies (flat_map (λ (b : Batch). b.marked) (before ++ with_marks batch (unplaced at.m ∷ at.later) ∷ after))
        unmark_once =
            subst (λ (l : List Batch). AllPairs AreOtherBodies (flat_map (λ (b : Batch). b.marked) l)) cleared_batches
            (own-marks stored.1.before stored.1.stands.laws.bodies stored.1.seat stored.1.number view stored.1.allowed.at stored.1.allowed.pass)

        unmark_left : next ≡ record view { known = next.known; joined = None; call = view.call; batches = before ++ with_marks batch at.later ∷ after; loose = start.loose; written = start.written }
        unmark_left =
            now-by MayUnmark unmark view next (Phase at.m.index) 0 0 stored.0 stored.1
            ∙ (λ i. record view {
              known = next.known;
              joined = None;
              batches = (ap (without_marked at.m.index) cleared_batches ∙ body-gone before batch after (unplaced at.m) at.later unmark_once) i;
              loose = worked-loose start view _ work.worked i;
              written = worked-written start view _ work.worked i;
            })

        pub unmarked-work : UnderStripe start before batch after next at.m (at.gone ++ at.m ∷ []) at.later
        unmarked-work =
            let number = work.worked.adds.number in
            let stripe = stripe_of start.config at.m.index in
            subst (λ (e : List Entry). WorksUnder (stripe_of start.config at.m.index) start next (record (unmarking_work start before batch after at.gone at.later) { entries = e }))
            (sym (map-append (λ (x : Marked). Unmark x.index) at.gone (at.m ∷ [])))
            (subst
            (λ t. WorksUnder (stripe_of start.config at.m.index) start next (record (unmarking_work start before batch after at.gone at.later) { task = t; entries = unmark_entries at.gone ++ Unmark at.m.index ∷ [] }))
            work.worked.doing
            (under-made start view next _ (Phase at.m.index) 0 view.call (before ++ with_marks batch at.later ∷ after) start.loose start.written (stores-word MayUnmark unmark view next (Phase at.m.index) 0 refl stored)
            unmark_left stripe (record { pass = number; entry = Unmark at.m.index }) (unmark-made view next at.m.index stored number (worked-pass start view _ work.worked)) refl
            (step-alone MayUnmark unmark view next (Phase at.m.index) 0 0 stored.0 stored.1) work))

    -- and its stripe is let go
    pub body-left : (next : View) (found : ℕ) → LetGo view (stripe_of start.config at.m.index) found next → UnderStripe start before batch after view at.m (at.gone ++ at.m ∷ []) at.later
        → HasUnmarked (suc done) start before batch after next
    body-left next found go work = record {
      gone = at.gone ++ at.m ∷ [];
      left = at.later;
      parts = at.parts ∙ sym (append_assoc at.gone (at.m ∷ []) at.later);
      many = length-append at.gone (at.m ∷ []) ∙ (let many = at.many in omega arith);
      work = under-released start view next _ (stripe_of start.config at.m.index) found go refl work;
    }

  -- ---- what comes next

  module _ (done : ℕ) (u : HasUnmarked done start before batch after view) where
    gone_left : length batch.marked ≡ done + length u.left
    gone_left = ap (λ (l : List Marked). length l) u.parts ∙ (length-append u.gone u.left ∙ ap (λ (n : ℕ). n + length u.left) u.many)

    -- a body is left
    pub body-next : done < kept.marked → (at : IsAtBody batch done) × WorksFree start view (unmarking_work start before batch after at.gone (at.m ∷ at.later))
    body-next less = go u.left refl
      where
        go : (l : List Marked) → u.left ≡ l → (at : IsAtBody batch done) × WorksFree start view (unmarking_work start before batch after at.gone (at.m ∷ at.later))
        go [] none =
            let rest : length u.left ≡ 0 = ap (λ (l : List Marked). length l) none in
            let all = gone_left in
            let most = marked-many kept batch begun.keeps in
            absurd (omega arith)
        go (m ∷ later) some = (
          record { gone = u.gone; m = m; later = later; parts = u.parts ∙ ap (λ (l : List Marked). u.gone ++ l) some; many = u.many },
          subst (λ (l : List Marked). WorksFree start view (unmarking_work start before batch after u.gone l)) some u.work,
        )

    -- or none
    pub bodies-done : done ≡ kept.marked → WorksFree start view (unmarking_work start before batch after batch.marked [])
    bodies-done all = go u.left refl
      where
        go : (l : List Marked) → u.left ≡ l → WorksFree start view (unmarking_work start before batch after batch.marked [])
        go [] none =
            subst (λ (l : List Marked). WorksFree start view (unmarking_work start before batch after l [])) (sym (append-nil u.gone) ∙ (ap (λ (l : List Marked). u.gone ++ l) (sym none) ∙ sym u.parts))
            (subst (λ (l : List Marked). WorksFree start view (unmarking_work start before batch after u.gone l)) none u.work)
        go (m ∷ later) some =
            let rest : length u.left ≡ suc (length later) = ap (λ (l : List Marked). length l) some in
            let count = gone_left in
            let most = marked-many kept batch begun.keeps in
            absurd (omega arith)

  pub comes-next : (done : ℕ) → HasUnmarked done start before batch after view → (stage : GiveStage) → ComesNext kept done view stage → AtGiving start before batch after view stage
  comes-next done u Bare comes = bodies-done done u comes
  comes-next done u (Striping number taking) comes =
      let next = body-next number (subst (λ (n : ℕ). HasUnmarked n start before batch after view) (sym comes.0) u) (subst (λ (n : ℕ). n < kept.marked) (sym comes.0) comes.1) in (
        next.0,
        next.1,
        subst (λ (l : ℕ). IsTaking (taking_of l Write) view taking view)
            (λ i. stripe_of (worked-sizes start view _ next.1.worked i) ((ap (λ (n : ℕ). index_at kept n) (sym comes.0) ∙ body-index kept batch begun.keeps number next.0) i)) comes.2,
      )
  comes-next done u (Striped number) comes = absurd comes
  comes-next done u (Cleared number) comes = absurd comes
  comes-next done u (Unmarked number) comes = absurd comes
  comes-next done u (Locking taking) comes = absurd comes
  comes-next done u Locked comes = absurd comes
  comes-next done u (Next free given) comes = absurd comes
  comes-next done u (Headed free given head) comes = absurd comes
  comes-next done u (Linked free given) comes = absurd comes
  comes-next done u (Given free) comes = absurd comes
  comes-next done u Counted comes = absurd comes

-- ---- the beginning

-- no body is unmarked yet
pub none-unmarked : (kept : KeptBatch) (view : View) (number : ℕ) → IsPass view number → (before : List Batch) (batch : Batch) (after : List Batch) → IsBegunFor kept view before batch after
    → HasUnmarked 0 view before batch after view
none-unmarked kept view number pass before batch after begun = record {
  gone = [];
  left = batch.marked;
  parts = refl;
  many = refl;
  work = record {
    steps = [];
    free = λ lock. refl;
    worked = subst (λ (l : List Batch). HasWorked view view (record (begun_work view) { batches = l; places = true })) begun.among (worked-loosely view view _ (worked-begun view number pass begun.rest));
  };
}

pub giving-begun : (kept : KeptBatch) (stage : GiveStage) (view next : View) (number : ℕ) → IsPass view number → next ≡ view
    → ((before : List Batch) × (batch : Batch) × (after : List Batch) × IsBegunFor kept view before batch after) → ComesNext kept 0 view stage
    → IsGivingUp (record { kept = kept; stage = stage; made = None }) view (record { kept = kept; stage = stage; made = None }) next
giving-begun kept stage view next number pass still some comes =
    subst (IsGivingUp (record { kept = kept; stage = stage; made = None }) view (record { kept = kept; stage = stage; made = None })) (sym still)
    (record {
      kept = refl;
      some = some;
      each = λ before batch after begun. comes-next view before batch after kept begun view 0 (none-unmarked kept view number pass before batch after begun) stage comes;
    })
