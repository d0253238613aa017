-- What a part stored and saw, as what the whole call stored and saw.
use Rattle.std.proofs.Common.{◌≡◌, ℕ, List, ◌∷◌, ◌++◌, get_or, append_assoc, ap, sym, ◌∙◌, subst}
use Rattle.body_ident.specs.Id.{Id}
use Rattle.word_map.specs.declared.config.Config.{Config}
use Rattle.word_map.specs.declared.name.Name.{Name}
use Rattle.core_state.specs.declared.item.Item.{Item}
use Rattle.core_state.specs.declared.view.View.{View}
use Rattle.core_state.specs.Log.{word, IsPrefix}
use Rattle.pass_table.specs.Calls.{AtPoint}
use Rattle.pass_table.proofs.Calling.{point-later}
use Rattle.pass_table.proofs.Working.{point-from}
use Rattle.batch_add.specs.Parts.{StoresFrom, IsFreeAt, WereFree}
use Rattle.pass_table.proofs.WorkLater.{same_pass}

-- what is stored in a later part is stored in the whole call
pub from-from : (start mid next : View) (name : Name) (old new : ℕ) → mid.config ≡ start.config → mid.role ≡ start.role → IsPrefix start.known mid.known → StoresFrom mid next name old new
    → StoresFrom start next name old new
from-from start mid next name old new sizes role early stored = record {
  since = early.0 ++ stored.since;
  item = stored.item;
  later = stored.later;
  parts = stored.parts ∙ ap (λ (l : List Item). l ++ stored.item ∷ stored.later) same;
  pass = same_pass mid start stored.item.pass (sym role) stored.pass;
  named = stored.named;
  is = stored.is;
  was =
      subst (λ (l : List Item). word start.config l name ≡ old) same
      (subst (λ (c : Config). word c (mid.known ++ stored.since) name ≡ old) sizes stored.was);
}
  where
    same : mid.known ++ stored.since ≡ start.known ++ (early.0 ++ stored.since)
    same = ap (λ (l : List Item). l ++ stored.since) early.1 ∙ append_assoc start.known early.0 stored.since

-- bodies that were free at points of a part in the middle were so at points of the whole call
pub were-inside : (layer : ℕ) (start mid late next : View) (ids : List Id) → mid.config ≡ start.config → IsPrefix start.known mid.known → IsPrefix late.known next.known → WereFree layer mid late ids → WereFree layer start next ids
were-inside layer start mid late next ids sizes early later were k d below =
    let fact = IsFreeAt start.config layer (get_or ids k d) in
    point-later start late next fact later
    (point-from start mid late fact early (subst (λ (c : Config). AtPoint mid late (IsFreeAt c layer (get_or ids k d))) sizes (were k d below)))
