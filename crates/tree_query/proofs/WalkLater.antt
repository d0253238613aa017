-- What others' steps between two turns leave of a walk.
use Rattle.std.proofs.Common.{◌≡◌, ℕ, ◌≤◌, List, [], length, ap, sym, ◌∙◌, subst, inl, inr}
use Rattle.std.specs.Prelude.{◌≢◌, Contains}
use Rattle.fixed_box.specs.declared.shape.Shape.{Shape}
use Rattle.word_map.specs.declared.name.Name.TheVariants.{Child as ChildName}
use Rattle.core_state.specs.declared.item.Load.{Load}
use Rattle.core_state.specs.declared.view.Walk.{Walk as WalkRecord}
use Rattle.core_state.specs.declared.view.View.{View}
use Rattle.core_state.specs.Log.{history}
use Rattle.core_state.specs.WalkRecord.{IsLoaded}
use Rattle.core_state.specs.Walking.{Position, Follows, position_of}
use Rattle.pass_table.specs.Knowing.{KnowsMore}
use Rattle.tree_query.specs.declared.finder.Finder.{Finder}
use Rattle.tree_query.specs.declared.walk.Walk.{Walk}
use Rattle.tree_query.specs.Collecting.{found_by, Trip, IsCollecting}
use Rattle.tree_query.specs.stages.WalkTurns.{trip_of, IsWalkGoing}
use Rattle.tree_query.specs.stages.WalkLater.{IsWalkingSince}
use Rattle.tree_query.proofs.Later.{walked-later, collected-later}

module _ (view next : View) (more : KnowsMore view next) where
  -- the record of the walk stays
  walk-same : next.walk ≡ view.walk
  walk-same = ap (λ (v : View). v.walk) more.rest

  loads-same : next.walk.loads ≡ view.walk.loads
  loads-same = ap (λ (w : WalkRecord). w.loads) walk-same

  pub collecting-later : (trip : Trip) (shape : Shape) (finder : Finder) (at : Position) → IsCollecting trip shape finder view at → IsCollecting trip shape finder next at
  collecting-later trip shape finder at h = record {
    asks = h.asks;
    on = record {
      walked = walked-later trip.start view next trip.told h.on.walked more;
      walking = record {
        on = ap (λ (w : WalkRecord). w.is_on) walk-same ∙ h.on.walking.on;
        from = subst (λ (w : WalkRecord). length (history trip.start.known) ≤ w.from) (sym walk-same) h.on.walking.from;
        follows = subst (Follows trip.start.config trip.query) (sym loads-same) h.on.walking.follows;
        place = ap (position_of trip.start.config trip.query) loads-same ∙ h.on.walking.place;
      };
    };
    kept = record {
      found = λ index. (
        λ t. subst (λ (l : List Load). Contains (found_by trip.start.config trip.query l) index) (sym loads-same) ((h.kept.found index).0 t),
        λ among. (h.kept.found index).1 (subst (λ (l : List Load). Contains (found_by trip.start.config trip.query l) index) loads-same among),
      );
      seqs = h.kept.seqs;
      loads = h.kept.loads ∙ sym (ap (length {A = Load}) loads-same);
    };
  }

  -- a walk by turns goes on as it was
  pub walk-later : (room : ℕ) (first : Walk) (start : View) (walk : Walk) (finder : Finder) → IsWalkGoing room first start walk finder view → IsWalkGoing room first start walk finder next
  walk-later room first start walk finder h = record {
    plan = h.plan;
    sized = h.sized;
    lowest = h.lowest;
    roomy = h.roomy;
    fits = h.fits;
    before = λ e.
        let was = h.before e in
        record {
          layer = was.layer;
          slot = was.slot;
          stack = was.stack;
          walked = walked-later start view next [] was.walked more;
          rests = ap (λ (w : WalkRecord). w.is_on) walk-same ∙ was.rests;
          none = was.none;
          loads = was.loads;
        };
    reads = λ t.
        let was = h.reads t in
        record {
          number = was.number;
          first = was.first;
          pass = was.pass;
          query = was.query;
          asks = was.asks;
          at = was.at;
          place = was.place;
          collecting = collecting-later (trip_of start was.number was.first was.query) walk.shape finder was.at was.collecting;
          loaded = λ side. subst (λ (l : List Load). IsLoaded l (ChildName walk.node walk.child) walk.word × (walk.word ≢ 0)) (sym loads-same) (was.loaded side);
          above = was.above;
          within = was.within;
        };
    ended = λ e. collected-later walk.shape walk.mask start view next finder (h.ended e) more;
  }

-- as it is now
pub walking-now : (room : ℕ) (first : Walk) (start : View) (walk : Walk) (finder : Finder) (view : View) → IsWalkingSince room first start walk finder view → IsWalkGoing room first start walk finder view
walking-now room first start walk finder view h =
    elim h.since [
      | inl same ↦ subst (IsWalkGoing room first start walk finder) same h.goes
      | inr more ↦ walk-later h.mid view more room first start walk finder h.goes
    ]
