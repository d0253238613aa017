-- A walk that has ended is one still where its pass comes to know more.
use Rattle.std.proofs.Common.{◌≡◌, ℕ, ◌≤◌, List, [], ◌++◌, None, length, take, ap, sym, ◌∙◌, subst, arith}
use Rattle.fixed_box.specs.declared.shape.Shape.{Shape}
use Rattle.fixed_box.specs.Touch.{Touch}
use Rattle.scene_model.specs.declared.entry.Made.{Made}
use Rattle.scene_model.specs.History.{scene_after, Fits, IsDue}
use Rattle.core_state.specs.declared.item.Item.{Item}
use Rattle.core_state.specs.declared.item.Store.{Store}
use Rattle.core_state.specs.declared.view.Walk.{Walk}
use Rattle.core_state.specs.declared.view.View.{View}
use Rattle.core_state.specs.Log.{history}
use Rattle.core_state.specs.Quietly.{KnowsQuietly}
use Rattle.core_state.specs.WalkRecord.{IsCandidate}
use Rattle.core_state.specs.Walking.{asked_words}
use Rattle.core_state.proofs.Quiet.{KnowsQuietly-trans}
use Rattle.core_query.specs.WholeRecord.{IsWholeRecord}
use Rattle.pass_table.specs.Knowing.{KnowsMore}
use Rattle.pass_table.proofs.Calling.{adds-more}
use Rattle.pass_table.proofs.WorkLater.{tells-more}
use Rattle.tree_query.specs.declared.finder.Finder.{Finder}
use Rattle.tree_query.specs.Walking.{HasWalked}
use Rattle.tree_query.specs.Checking.{points_between}
use Rattle.tree_query.specs.Answers.{HasCollected}
use Rattle.tree_query.proofs.WalkOn.{walk-quietly}
use Rattle.tree_query.proofs.RightAnswers.{taken-on, longer}

-- what was walked was walked
pub walked-later : (start view next : View) (stores : List Store) → HasWalked start view stores → KnowsMore view next → HasWalked start next stores
walked-later start view next stores h more =
    let role : view.role ≡ start.role = ap (λ (v : View). v.role) h.left in
    let started : View = record start { walk = view.walk } in
    let further : KnowsQuietly view next = record { since = more.since; known = more.known; quiet = λ early later item parts. (more.others early later item parts).quiet } in
    record {
      adds = adds-more start view next [] role h.adds more;
      tells = tells-more start view next stores role h.tells more;
      quiet = walk-quietly started next start.walk (KnowsQuietly-trans started view next h.left (walk-quietly start view view.walk h.quiet) further);
      left =
          more.rest
          ∙ (ap (λ (v : View). record v { known = next.known; joined = None }) h.left
          ∙ (λ i. record start { known = next.known; joined = sym (ap (λ (v : View). v.joined) more.rest) i; walk = sym (ap (λ (v : View). v.walk) more.rest) i }));
    }

-- what is due up to a later point was due up to the earlier one
pub due-sooner : (shape : Shape) (mask bodies : ℕ) (start view next : View) (since : List Item) → next.known ≡ view.known ++ since → (index generation : ℕ)
    → IsDue (Touch shape) mask bodies (points_between start next) index generation → IsDue (Touch shape) mask bodies (points_between start view) index generation
due-sooner shape mask bodies start view next since known index generation due n above below =
    let same : take n (history next.known) ≡ take n (history view.known) = ap (λ (l : List Item). take n (history l)) known ∙ taken-on n view.known since below in
    let on = subst (λ (l : List Item). length (history view.known) ≤ length (history l)) (sym known) (longer view.known since) in
    subst (λ (l : List Made). Fits (Touch shape) mask (scene_after bodies l) index generation) same (due n above (omega arith))

pub collected-later : (shape : Shape) (mask : ℕ) (start view next : View) (finder : Finder) → HasCollected shape mask start view finder → KnowsMore view next → HasCollected shape mask start next finder
collected-later shape mask start view next finder h more =
    let walk : view.walk ≡ next.walk = sym (ap (λ (v : View). v.walk) more.rest) in
    record {
      number = h.number;
      pass = h.pass;
      first = h.first;
      second = h.second;
      walked = walked-later start view next _ h.walked more;
      odd = h.odd;
      ended = ap (λ (w : Walk). w.is_on) (sym walk) ∙ h.ended;
      query = h.query;
      asks = h.asks;
      whole = subst (λ (w : Walk). IsWholeRecord h.query [] (asked_words start.config mask) w.loads) walk h.whole;
      loads = h.loads ∙ ap (λ (w : Walk). length w.loads) walk;
      candidates = λ index. (
        λ has. subst (λ (w : Walk). IsCandidate shape w.loads index) walk ((h.candidates index).0 has),
        λ candidate. (h.candidates index).1 (subst (λ (w : Walk). IsCandidate shape w.loads index) (sym walk) candidate),
      );
      below = h.below;
      seqs = h.seqs;
      due = λ index generation due. h.due index generation (due-sooner shape mask start.config.bodies start view next more.since more.known index generation due);
    }
