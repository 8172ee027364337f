-- Rows never exceed 5 times the visits. Assumes nothing.
use mathlib.Core.Path.{◌≡◌, subst}
use mathlib.Core.Bool.{Bool, true, false}
use mathlib.Core.Option.{Option, some, none}
use mathlib.Core.List.{List, [], ◌∷◌}
use Prim.Native.Nat.{ℕ, zero, suc, ◌+◌, ◌*◌, ◌≤◌, zero-le}
use native.Mathlib.Omega.{arith}
use lib.ListN.{length, get_or, length-append, length-map}
use Rattle.meaning.specs.Limits.{most_in_clause, onward_mark}
use Rattle.meaning.specs.Problem.{Alternative, opposite, Clause}
use Rattle.meaning.specs.Search.{Row, mark, cycle, Outcome, found, closed, stopped, enter, look, later, and_then, branch, first_dead, search}

-- every clause has at most as many alternatives as it may
abbrev pub Short : List Clause → Type 0
Short [] = Unit {0}
Short (c ∷ cs) = (length c ≤ most_in_clause) × Short cs

short-at : (cs : List Clause) (d : ℕ) → Short cs → length (get_or cs d []) ≤ most_in_clause
short-at [] d s = zero-le
short-at (c ∷ cs) zero s = s.0
short-at (c ∷ cs) (suc d) s = short-at cs d s.1

-- x rows past 5 for each visit
abbrev Cheap : ℕ → ℕ → Outcome → Type 0
Cheap x v (found p b w) = Unit {0}
Cheap x v (closed n r w) = length r + 5 * w ≤ 5 * v + x
Cheap x v (stopped b r p) = Unit {0}

later-cheap : (x y v w n : ℕ) (r : List Row) (o : Outcome) → length r + 5 * w ≤ 5 * v + x → Cheap y w o → Cheap (x + y) v (later n r o)
unfolding later
later-cheap x y v w n r (found p b u) h k = tt
later-cheap x y v w n r (closed m s u) h k = omega (arith, length-append r s)
later-cheap x y v w n r (stopped b s p) h k = tt

then-cheap : (x v i : ℕ) (o : Outcome) (rest : ℕ → Outcome) → Cheap 1 v o → ((w : ℕ) → Cheap x w (rest w)) → Cheap (1 + x) v (and_then i o rest)
unfolding and_then
then-cheap x v i (found p b w) rest h k = tt
then-cheap x v i (closed n r w) rest h k = later-cheap 1 x v w n r (rest w) h (k w)
then-cheap x v i (stopped b r p) rest h k = tt

branch-cheap : (go : List Alternative → ℕ → Outcome) → ((fs : List Alternative) (v : ℕ) → Cheap 1 v (go fs v)) → (i : ℕ) (c : Clause) (fs : List Alternative) (v : ℕ) → Cheap (length c) v (branch go i c fs v)
unfolding branch
branch-cheap go h i [] fs v = omega arith
branch-cheap go h i (a ∷ more) fs v =
    subst (λ (x : ℕ). Cheap x v (and_then i (go (a ∷ fs) v) (λ w. branch go (suc i) more (opposite a ∷ fs) w))) (omega arith)
    (then-cheap (length more) v i (go (a ∷ fs) v) _ (h (a ∷ fs) v) (λ w. branch-cheap go h (suc i) more (opposite a ∷ fs) w))

-- a visit pays for five rows
open-paid : (x w : ℕ) (o : Outcome) → x ≤ most_in_clause → Cheap x w o → Cheap 5 w (later 0 (mark onward_mark ∷ []) o)
unfolding later
open-paid x w (found p b u) l h = tt
open-paid x w (closed m s u) l h = omega (arith, length-append (mark onward_mark ∷ []) s)
open-paid x w (stopped b s p) l h = tt

look-paid : (o : Option ℕ) (k : ℕ) (cs : List Clause) (fs : List Alternative) (w : ℕ) (n : Outcome) → Short cs → Cheap 5 w n → Cheap 5 w (look o k cs fs w n)
unfolding look
look-paid (some d) k cs fs w n s h = omega (arith, short-at cs d s, length-map (get_or cs d []) (λ a. cycle (a ∷ fs)))
look-paid none k cs fs w n s h = h

visit-paid : (w : ℕ) (o : Outcome) → Cheap 5 w o → Cheap 0 (suc w) o
visit-paid w (found p b u) h = tt
visit-paid w (closed n r u) h = omega arith
visit-paid w (stopped b r p) h = tt

unpaid : Bool → ℕ
unpaid true = 0
unpaid false = 1

enter-cheap : (b : Bool) (cs : List Clause) (fs : List Alternative) (v : ℕ) (go : ℕ → Outcome) → ((w : ℕ) → Cheap 5 w (go w)) → Cheap (unpaid b) v (enter b cs fs v go)
unfolding enter unpaid
enter-cheap false cs fs v go h = omega arith
enter-cheap true cs fs zero go h = tt
enter-cheap true cs fs (suc w) go h = visit-paid w (go w) (h w)

at_most_one : (b : Bool) (v : ℕ) (o : Outcome) → Cheap (unpaid b) v o → Cheap 1 v o
unfolding unpaid
at_most_one b v (found p c w) h = tt
at_most_one true v (closed n r w) h = omega arith
at_most_one false v (closed n r w) h = h
at_most_one b v (stopped c r p) h = tt

module _ (sound : List Alternative → Bool) where
  search-cheap : (cs : List Clause) (k : ℕ) (fs : List Alternative) (v : ℕ) → Short cs → Cheap (unpaid (sound fs)) v (search sound cs k fs v)
  unfolding search
  search-cheap [] k fs v s = enter-cheap (sound fs) [] fs v (λ w. found [] 0 w) (λ w. tt)
  search-cheap (c ∷ cs) k fs v s =
      enter-cheap (sound fs) (c ∷ cs) fs v _
      (λ w.
      look-paid (first_dead sound fs (c ∷ cs)) k (c ∷ cs) fs w _ s
      (open-paid (length c) w _ s.0
      (branch-cheap (λ f u. search sound cs (suc k) f u) (λ f u. at_most_one (sound f) u (search sound cs (suc k) f u) (search-cheap cs (suc k) f u s.1)) 0 c fs w)))

  pub rows_few : (cs : List Clause) (v n : ℕ) (r : List Row) (w : ℕ) → Short cs → sound [] ≡ true → search sound cs 0 [] v ≡ closed n r w → length r + 5 * w ≤ 5 * v
  unfolding unpaid
  rows_few cs v n r w s y e =
      let h : Cheap (unpaid true) v (closed n r w) = subst (λ o. Cheap (unpaid true) v o) e (subst (λ (b : Bool). Cheap (unpaid b) v (search sound cs 0 [] v)) y (search-cheap cs 0 [] v s)) in
      omega arith
