-- Lists that are linked: what a link stored elsewhere leaves of one, and that the links determine it.
use Rattle.std.proofs.Common.{◌≡◌, ℕ, suc, List, [], ◌∷◌, Contains, refl, subst, arith}
use Rattle.scene_model.proofs.Lives.{Contains-cons_tail}
use Rattle.core_state.specs.Bodies.{IsChain}
use Rattle.core_state.proofs.Beginning.{contains_first}

-- a chain stands where each of its elements has the link that it had
pub chain-kept : (next after : ℕ → ℕ) (link : ℕ) (chain : List ℕ) → ((j : ℕ) → Contains chain j → after j ≡ next j) → IsChain next link chain → IsChain after link chain
chain-kept next after link [] same h = h
chain-kept next after link (at ∷ rest) same h =
    let own : after at ≡ next at = same at (contains_first at rest) in
    (h.0, rw own (chain-kept next after (next at) rest (λ j c. same j (Contains-cons_tail at rest j c)) h.1))

-- an element whose link is the chain's comes in front
pub chain-front : (next : ℕ → ℕ) (link at : ℕ) (chain : List ℕ) → next at ≡ link → IsChain next link chain → IsChain next (suc at) (at ∷ chain)
chain-front next link at chain own h = (refl, rw own h)

-- a link of 0 is the end
pub chain-end : (next : ℕ → ℕ) (chain : List ℕ) → IsChain next 0 chain → chain ≡ []
chain-end next [] h = refl
chain-end next (at ∷ rest) h = let first = h.0 in absurd (omega arith)

-- any other link names the first element
pub chain-first : (next : ℕ → ℕ) (at : ℕ) (chain : List ℕ) → IsChain next (suc at) chain → (rest : List ℕ) × (chain ≡ at ∷ rest) × IsChain next (next at) rest
chain-first next at [] h = absurd (omega (arith, h))
chain-first next at (first ∷ rest) h =
    let same : first ≡ at = (let link = h.0 in omega arith) in
    (rest, (λ i. same i ∷ rest), subst (λ (k : ℕ). IsChain next (next k) rest) same h.1)
