-- What sources gave and sinks took over several calls.
use Rattle.std.proofs.Common.{◌≡◌, ℕ, List, [], ◌++◌, Option, Some, None, refl, sym, ap, ◌∙◌, append_assoc}
use Rattle.std.proofs.lemmas.List.{append-nil}
use Rattle.std.specs.Io.KnownBytes.{prepend_known, append_known}
use Rattle.world_io.specs.Bytes.{Gave, GaveAll, Appended, AppendedPart}

pub prepend_known-nothing : (known : Option (List ℕ)) → prepend_known [] known ≡ known
prepend_known-nothing None = refl
prepend_known-nothing (Some xs) = refl

pub append_known-nothing : (known : Option (List ℕ)) → append_known known [] ≡ known
append_known-nothing None = refl
append_known-nothing (Some xs) = ap Some (append-nil xs)

pub prepend_known-prepend_known : (xs ys : List ℕ) (known : Option (List ℕ)) → prepend_known xs (prepend_known ys known) ≡ prepend_known (xs ++ ys) known
prepend_known-prepend_known xs ys None = refl
prepend_known-prepend_known xs ys (Some zs) = ap Some (sym (append_assoc xs ys zs))

pub append_known-append_known : (known : Option (List ℕ)) (xs ys : List ℕ) → append_known (append_known known xs) ys ≡ append_known known (xs ++ ys)
append_known-append_known None xs ys = refl
append_known-append_known (Some zs) xs ys = ap Some (append_assoc zs xs ys)

-- a source that gave nothing has what it had
pub Gave-nothing : (left : Option (List ℕ)) → Gave left left []
Gave-nothing left = sym (prepend_known-nothing left)

-- what two calls gave, one after the other
pub Gave-append : (a b c : Option (List ℕ)) (xs ys : List ℕ) → Gave a b xs → Gave b c ys → Gave a c (xs ++ ys)
Gave-append a b c xs ys first second = first ∙ ap (prepend_known xs) second ∙ prepend_known-prepend_known xs ys c

-- told bytes that were given whole are those that were left
pub GaveAll-told : (xs : List ℕ) (new : Option (List ℕ)) (bytes : List ℕ) → GaveAll (Some xs) new bytes → (xs ≡ bytes) × (new ≡ Some [])
GaveAll-told xs None bytes all = (cc (all.gave), cc (all.gave))
GaveAll-told xs (Some rest) bytes all =
    let whole : xs ≡ bytes ++ rest = cc (all.gave) in
    let none : rest ≡ [] = all.at_end in
    (whole ∙ ap (λ r. bytes ++ r) none ∙ append-nil bytes, ap Some none)

-- a sink that took nothing holds what it held
pub Appended-nothing : (held : Option (List ℕ)) → Appended held held []
Appended-nothing held = sym (append_known-nothing held)

-- what two calls took, one after the other
pub Appended-append : (a b c : Option (List ℕ)) (xs ys : List ℕ) → Appended a b xs → Appended b c ys → Appended a c (xs ++ ys)
Appended-append a b c xs ys first second = second ∙ ap (λ held. append_known held ys) first ∙ append_known-append_known a xs ys

-- the whole is a first part
pub AppendedPart-whole : (a b : Option (List ℕ)) (xs : List ℕ) → Appended a b xs → AppendedPart a b xs
AppendedPart-whole a b xs whole = record { part = xs; rest = []; split = sym (append-nil xs); appended = whole }

-- a first part of some bytes is one of longer bytes
pub AppendedPart-longer : (a b : Option (List ℕ)) (xs ys : List ℕ) → AppendedPart a b xs → AppendedPart a b (xs ++ ys)
AppendedPart-longer a b xs ys some = record {
  part = some.part;
  rest = some.rest ++ ys;
  split = ap (λ zs. zs ++ ys) some.split ∙ append_assoc some.part some.rest ys;
  appended = some.appended;
}

-- some bytes, and then a first part of further bytes
pub AppendedPart-append : (a b c : Option (List ℕ)) (xs ys : List ℕ) → Appended a b xs → AppendedPart b c ys → AppendedPart a c (xs ++ ys)
AppendedPart-append a b c xs ys first some = record {
  part = xs ++ some.part;
  rest = some.rest;
  split = ap (λ zs. xs ++ zs) some.split ∙ sym (append_assoc xs some.part some.rest);
  appended = Appended-append a b c xs some.part first some.appended;
}

-- calls one after the other, for goals where their bytes are joined
pub ruleset joined_bytes = (prepend_known-nothing, append_known-nothing, prepend_known-prepend_known, append_known-append_known)
