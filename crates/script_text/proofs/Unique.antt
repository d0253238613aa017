-- The words of a script tell all of it.
use Rattle.std.proofs.Common.{◌≡◌, ◌^◌, ℕ, ◌<◌, ◌≤◌, Bool, true, false, ◌&&◌, ltb, List, [], ◌∷◌, ◌++◌, length, map, ℤ, pos, negsuc, IsTrue, Option, Result, Ok, Err, IfOk, refl, ap, sym, ◌∙◌, arith, length-append}
use Rattle.std.proofs.lemmas.Int.{ints}
use Rattle.std.proofs.lemmas.Bool.Decides.{nat_tests}
use Rattle.std.proofs.lemmas.List.{length-map}
use Rattle.std.specs.Str.{bytes_eq}
use Rattle.std.specs.Fmt.{decimal, signed_decimal}
use Rattle.std.proofs.lemmas.Fmt.{decimal_injective, signed_decimal_injective}
use Rattle.std.proofs.lemmas.Slice.Eq.{bytes_eq-Decides}
use mathlib.Core.HLevel.{is_prop→PathP}
use Rattle.std.proofs.Props.{props}
use Rattle.fixed_box.specs.Range.{InRange, IsStep}
use Rattle.fixed_box.specs.Corner.{IsReach}
use Rattle.fixed_box.specs.declared.coord.Coord.{Coord}
use Rattle.fixed_box.specs.declared.fix_box.FixBox.{FixBox}
use Rattle.fixed_box.specs.declared.segment.Segment.{Segment}
use Rattle.fixed_box.proofs.Same.{same_coord, same_box}
use Rattle.word_map.specs.declared.config.Config.{Config}
use Rattle.word_map.specs.Limits.{IsConfig, is_stripe_count}
use Rattle.script_text.specs.declared.command.Command.{Command}
use Rattle.script_text.specs.declared.command.Command.TheVariants.{Create, Destroy, Add, Prepare, Finalize, Abort, Remove, Move, User, Read, Multi, QueryBox, QueryPoint, QueryRay}
use Rattle.script_text.specs.declared.script.Script.{Script}
use Rattle.script_text.specs.Command.{corner_words, box_words, segment_words, world_words, command_words}
use Rattle.script_text.specs.Fitting.{numbers_fit, all_fit}
use Rattle.script_text.specs.Lines.{lines_of, commands_of}
use Rattle.script_text.specs.Printed.{text_of}
use Rattle.script_text.specs.Sound.{IsSound}
use Rattle.script_text.specs.declared.script.ScriptFault.{ScriptFault}
use Rattle.script_text.specs.declared.code.Code.{Code}
use Rattle.script_text.specs.Script.{script_words, IsScriptOf, ReadsScript}

both : (a b : Bool) → (a && b) ≡ true → (a ≡ true) × (b ≡ true)
both a b h = grind arith

-- the parts of equal lists
parts : {X : Type 0} {x y : X} {xs ys : List X} → x ∷ xs ≡ y ∷ ys → (x ≡ y) × (xs ≡ ys)
parts h = (cc, cc)

halves : {X : Type 0} (xs ys us vs : List X) → length xs ≡ length ys → xs ++ us ≡ ys ++ vs → (xs ≡ ys) × (us ≡ vs)
halves [] [] us vs l h = (refl, h)
halves [] (y ∷ ys) us vs l h = absurd (omega (arith, l))
halves (x ∷ xs) [] us vs l h = absurd (omega (arith, l))
halves (x ∷ xs) (y ∷ ys) us vs l h =
    let p = parts h in
    let rest = halves xs ys us vs (omega (arith, l)) p.1 in
    let first : x ≡ y = p.0 in
    let after : xs ≡ ys = rest.0 in
    (cc, rest.1)

-- a number that its text tells
same_number : (B m n : ℕ) → B ≤ 2 ^ 32 → ltb m B ≡ true → ltb n B ≡ true → decimal m ≡ decimal n → m ≡ n
same_number B m n small a b e = decimal_injective m n (grind (arith, nat_tests)) (grind (arith, nat_tests)) e

-- a step that its text tells
same_step : (x y : ℤ) → IsStep x → IsStep y → signed_decimal x ≡ signed_decimal y → x ≡ y
same_step (pos m) (pos n) a b e = signed_decimal_injective (pos m) (pos n) (omega (arith, ints, a)) (omega (arith, ints, b)) e
same_step (pos m) (negsuc n) a b e = signed_decimal_injective (pos m) (negsuc n) (omega (arith, ints, a)) (omega (arith, ints, b)) e
same_step (negsuc m) (pos n) a b e = signed_decimal_injective (negsuc m) (pos n) (omega (arith, ints, a)) (omega (arith, ints, b)) e
same_step (negsuc m) (negsuc n) a b e = signed_decimal_injective (negsuc m) (negsuc n) (omega (arith, ints, a)) (omega (arith, ints, b)) e

is_step : (z : ℤ) → InRange z → IsStep z
is_step z h = (omega (arith, ints, h), omega (arith, ints, h))

same_coordinate : (a b : Coord) → signed_decimal a.value ≡ signed_decimal b.value → a ≡ b
same_coordinate a b e = same_coord a b (same_step a.value b.value (is_step a.value a.in_range) (is_step b.value b.in_range) e)

same_corner : (a b : List Coord) → corner_words a ≡ corner_words b → a ≡ b
same_corner [] [] h = refl
same_corner [] (y ∷ b) h = absurd cc
same_corner (x ∷ a) [] h = absurd cc
same_corner (x ∷ a) (y ∷ b) h =
    let p = parts h in
    let first : x ≡ y = same_coordinate x y p.0 in
    let rest : a ≡ b = same_corner a b p.1 in
    cc

corner_length : (a : List Coord) → length (corner_words a) ≡ length a
corner_length a = length-map a (λ c. signed_decimal c.value)

same_bounds : (a b : FixBox) → box_words a ≡ box_words b → a ≡ b
same_bounds a b h =
    let long : length (corner_words a.lo) ≡ length (corner_words b.lo) = corner_length a.lo ∙ (a.ordered.three_lo ∙ sym (corner_length b.lo ∙ b.ordered.three_lo)) in
    let p = halves (corner_words a.lo) (corner_words b.lo) (corner_words a.hi) (corner_words b.hi) long h in
    same_box a b (same_corner a.lo b.lo p.0) (same_corner a.hi b.hi p.1)

same_steps : (o u : List Coord) (d e : List ℤ) → IsReach o d → IsReach u e → map signed_decimal d ≡ map signed_decimal e → d ≡ e
same_steps o u (x ∷ y ∷ z ∷ []) (p ∷ q ∷ r ∷ []) a b h =
    let first = parts h in
    let second = parts first.1 in
    let third = parts second.1 in
    let on_x : x ≡ p = same_step x p a.steps.0 b.steps.0 first.0 in
    let on_y : y ≡ q = same_step y q a.steps.1 b.steps.1 second.0 in
    let on_z : z ≡ r = same_step z r a.steps.2 b.steps.2 third.0 in
    cc
same_steps o u _ _ a b h = absurd (omega (arith, a.three_d, b.three_d))

same_segment : (a b : Segment) → segment_words a ≡ segment_words b → a ≡ b
same_segment a b h =
    let long : length (corner_words a.o) ≡ length (corner_words b.o) = corner_length a.o ∙ (a.in_reach.three_o ∙ sym (corner_length b.o ∙ b.in_reach.three_o)) in
    let p = halves (corner_words a.o) (corner_words b.o) (map signed_decimal a.d) (map signed_decimal b.d) long h in
    let o : a.o ≡ b.o = same_corner a.o b.o p.0 in
    let d : a.d ≡ b.d = same_steps a.o b.o a.d b.d a.in_reach b.in_reach p.1 in
    λ i. record { o = o i; d = d i; in_reach = is_prop→PathP (λ j. IsReach (o j) (d j)) (λ j. hlevel props) a.in_reach b.in_reach i }

-- a number of stripes is small
few : (n : ℕ) → IsTrue (is_stripe_count n) → n < 2 ^ 64
few n h = grind (arith, nat_tests)

-- sizes within their limits, for as many callers
same_sizes : (a b : Config) → IsConfig a → IsConfig b → world_words a ≡ world_words b → a.passes ≡ b.passes → a ≡ b
same_sizes a b p q h passes =
    let bodies = parts (parts h).1 in
    let stripes = parts bodies.1 in
    let layers = parts stripes.1 in
    let slots = parts layers.1 in
    let nodes = parts slots.1 in
    let e : a.bodies ≡ b.bodies = decimal_injective a.bodies b.bodies (omega (arith, p.bodies)) (omega (arith, q.bodies)) bodies.0 in
    let f : a.stripes ≡ b.stripes = decimal_injective a.stripes b.stripes (few a.stripes p.stripes) (few b.stripes q.stripes) stripes.0 in
    let g : a.layers ≡ b.layers = decimal_injective a.layers b.layers (omega (arith, p.layers)) (omega (arith, q.layers)) layers.0 in
    let k : a.slots ≡ b.slots = decimal_injective a.slots b.slots (omega (arith, p.slots)) (omega (arith, q.slots)) slots.0 in
    let l : a.nodes ≡ b.nodes = decimal_injective a.nodes b.nodes (omega (arith, p.nodes)) (omega (arith, q.nodes)) nodes.0 in
    λ i. record { bodies = e i; stripes = f i; layers = g i; slots = k i; nodes = l i; passes = passes i }

-- the first words of two commands
apart : {v w : List ℕ} {vs ws : List (List ℕ)} → bytes_eq v w ≡ false → v ∷ vs ≡ w ∷ ws → ⊥
apart {v} {w} differ h =
    let same : bytes_eq v w ≡ true = (bytes_eq-Decides v w).1 (parts h).0 in
    absurd cc

-- a box has six words
six : (b : FixBox) → length (box_words b) ≡ 6
six b = omega (arith, length-append (corner_words b.lo) (corner_words b.hi), corner_length b.lo, corner_length b.hi, b.ordered.three_lo, b.ordered.three_hi)

pub same_command : (c d : Command) → numbers_fit c ≡ true → numbers_fit d ≡ true → command_words c ≡ command_words d → c ≡ d
same_command (Create n l b u) (Create m k x v) p q h =
    let name = parts (parts h).1 in
    let layer = parts name.1 in
    let long : length (box_words b) ≡ length (box_words x) = six b ∙ sym (six x) in
    let rest = halves (box_words b) (box_words x) (decimal u ∷ []) (decimal v ∷ []) long layer.1 in
    let fits = both (ltb l 4294967296) (ltb u 4294967296) p in
    let fit = both (ltb k 4294967296) (ltb v 4294967296) q in
    let e : n ≡ m = name.0 in
    let f : l ≡ k = same_number 4294967296 l k (omega arith) fits.0 fit.0 layer.0 in
    let g : b ≡ x = same_bounds b x rest.0 in
    let i : u ≡ v = same_number 4294967296 u v (omega arith) fits.1 fit.1 (parts rest.1).0 in
    cc
same_command (Destroy n) (Destroy m) p q h = let e : n ≡ m = (parts (parts h).1).0 in cc
same_command (Add n) (Add m) p q h = let e : n ≡ m = (parts h).1 in cc
same_command (Prepare b l n) (Prepare c k m) p q h =
    let batch = parts (parts h).1 in
    let layer = parts batch.1 in
    let e : b ≡ c = batch.0 in
    let f : l ≡ k = same_number 4294967296 l k (omega arith) p q layer.0 in
    let g : n ≡ m = layer.1 in
    cc
same_command (Finalize n) (Finalize m) p q h = let e : n ≡ m = (parts (parts h).1).0 in cc
same_command (Abort n) (Abort m) p q h = let e : n ≡ m = (parts (parts h).1).0 in cc
same_command (Remove n) (Remove m) p q h = let e : n ≡ m = (parts (parts h).1).0 in cc
same_command (Move n b) (Move m x) p q h =
    let name = parts (parts h).1 in
    let e : n ≡ m = name.0 in
    let f : b ≡ x = same_bounds b x name.1 in
    cc
same_command (User n u) (User m v) p q h =
    let name = parts (parts h).1 in
    let e : n ≡ m = name.0 in
    let f : u ≡ v = same_number 4294967296 u v (omega arith) p q (parts name.1).0 in
    cc
same_command (Read n) (Read m) p q h = let e : n ≡ m = (parts (parts h).1).0 in cc
same_command (Multi n) (Multi m) p q h = let e : n ≡ m = (parts h).1 in cc
same_command (QueryBox a b) (QueryBox k x) p q h =
    let mask = parts (parts h).1 in
    let e : a ≡ k = same_number 256 a k (omega arith) p q mask.0 in
    let f : b ≡ x = same_bounds b x mask.1 in
    cc
same_command (QueryPoint a b) (QueryPoint k x) p q h =
    let mask = parts (parts h).1 in
    let e : a ≡ k = same_number 256 a k (omega arith) p q mask.0 in
    let f : b ≡ x = same_corner b x mask.1 in
    cc
same_command (QueryRay a s) (QueryRay k t) p q h =
    let mask = parts (parts h).1 in
    let e : a ≡ k = same_number 256 a k (omega arith) p q mask.0 in
    let f : s ≡ t = same_segment s t mask.1 in
    cc
same_command _ _ p q h = absurd (apart refl h)

same_commands : (cs ds : List Command) → all_fit cs ≡ true → all_fit ds ≡ true → map command_words cs ≡ map command_words ds → cs ≡ ds
same_commands [] [] p q h = refl
same_commands [] (d ∷ ds) p q h = absurd cc
same_commands (c ∷ cs) [] p q h = absurd cc
same_commands (c ∷ cs) (d ∷ ds) p q h =
    let fits = both (numbers_fit c) (all_fit cs) p in
    let fit = both (numbers_fit d) (all_fit ds) q in
    let words = parts h in
    let first : c ≡ d = same_command c d fits.0 fit.0 words.0 in
    let rest : cs ≡ ds = same_commands cs ds fits.1 fit.1 words.1 in
    cc

-- two scripts with the same words are the same
pub one_script : (s t : Script) → script_words s ≡ script_words t → s ≡ t
one_script s t h =
    let words = parts h in
    let actors : s.actors ≡ t.actors = s.sound.no_actors ∙ sym t.sound.no_actors in
    let workers : s.most_workers ≡ t.most_workers = s.sound.no_workers ∙ sym t.sound.no_workers in
    let passes : s.world.passes ≡ t.world.passes = omega (arith, s.sound.passes, t.sound.passes, actors, workers) in
    let world : s.world ≡ t.world = same_sizes s.world t.world s.sound.sizes t.sound.sizes words.0 passes in
    let lines : s.lines ≡ t.lines = same_commands s.lines t.lines s.sound.fit t.sound.fit words.1 in
    λ i. record {
      world = world i;
      lines = lines i;
      actors = actors i;
      most_workers = workers i;
      sound = is_prop→PathP (λ j. IsSound (world j) (lines j) (actors j) (workers j)) (λ j. hlevel props) s.sound t.sound i;
    }

-- the bytes of a script spell no other
pub only_one : (bytes : List ℕ) (s t : Script) → IsScriptOf bytes s → IsScriptOf bytes t → t ≡ s
only_one bytes s t p q = one_script t s (sym q.text ∙ p.text)

pub only_read : (r : Result Script ScriptFault) (fault : Option (ℕ × Code)) (bytes : List ℕ) → ReadsScript r fault (IsScriptOf bytes)
    → IfOk r (λ script. (other : Script) → IsScriptOf bytes other → other ≡ script)
only_read (Ok script) fault bytes h = λ other is. only_one bytes script other h.1 is
only_read (Err e) fault bytes h = tt

-- nor does its printed text
pub only_printed : (bytes : List ℕ) (s other : Script) → bytes ≡ text_of s.world s.lines → IsScriptOf bytes other → other ≡ s
only_printed bytes s other e is = one_script other s (sym is.text ∙ (ap (λ (b : List ℕ). commands_of (lines_of b)) e ∙ s.sound.words))
