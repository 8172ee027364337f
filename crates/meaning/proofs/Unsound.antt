-- Every cycle row of a search stands for facts that have no timetable, chosen alternatives of the problem and opposites. Assumes nothing.
use mathlib.Core.Path.{◌≡◌, refl, subst}
use mathlib.Core.Bool.{Bool, true, false, cond, false≢true}
use mathlib.Core.Option
use mathlib.Core.Option.{Option, some, none}
use mathlib.Core.List.{List, [], ◌∷◌, ◌++◌, map}
use Prim.Native.Nat.{ℕ, zero, suc}
use lib.ListN.{get_or}
use Rattle.laws.proofs.Tests.{never}
use Rattle.meaning.specs.Limits.{onward_mark}
use Rattle.meaning.specs.Problem.{Alternative, opposite, Clause}
use Rattle.meaning.specs.Search.{Row, mark, cycle, Outcome, found, closed, stopped, enter, look, later, and_then, branch, dead, first_dead, search}
use Rattle.meaning.proofs.Settling.{Each}
use Rattle.meaning.proofs.Accepted.{Every}

-- ---- the clause that is found dead is dead
module _ (sound : List Alternative → Bool) (fs : List Alternative) where
  pub dead-at : (cs : List Clause) (d : ℕ) → first_dead sound fs cs ≡ some d → dead sound fs (get_or cs d []) ≡ true
  unfolding first_dead
  dead-at [] d e = absurd (never (cc))
  dead-at (c ∷ cs) d e = go (dead sound fs c) refl (first_dead sound fs cs) refl e (λ m x. dead-at cs m x)
    where
      go : (b : Bool) → dead sound fs c ≡ b → (o : Option ℕ) → first_dead sound fs cs ≡ o → cond b (some 0) (Option.map suc o) ≡ some d → ((m : ℕ) → first_dead sound fs cs ≡ some m → dead sound fs (get_or cs m []) ≡ true) → dead sound fs (get_or (c ∷ cs) d []) ≡ true
      go true y o z x k = subst (λ (i : ℕ). dead sound fs (get_or (c ∷ cs) i []) ≡ true) (let q : 0 ≡ d = cc in q) y
      go false y none z x k = absurd (never (cc))
      go false y (some m) z x k = subst (λ (i : ℕ). dead sound fs (get_or (c ∷ cs) i []) ≡ true) (let q : suc m ≡ d = cc in q) (k m z)

  -- none of its alternatives has a timetable together with the facts
  dead-each : (c : Clause) → dead sound fs c ≡ true → Each (λ a. sound (a ∷ fs) ≡ false) c
  unfolding dead
  dead-each [] e = tt
  dead-each (a ∷ more) e = go (sound (a ∷ fs)) refl e (λ h. dead-each more h)
    where
      go : (b : Bool) → sound (a ∷ fs) ≡ b → cond b false (dead sound fs more) ≡ true → (dead sound fs more ≡ true → Each (λ a. sound (a ∷ fs) ≡ false) more) → (sound (a ∷ fs) ≡ false) × Each (λ a. sound (a ∷ fs) ≡ false) more
      go true y h k = absurd (false≢true h)
      go false y h k = (y, k h)

-- ---- what a search's cycle rows stand for
module _ (sound : List Alternative → Bool) (Q : Alternative → Type 0) where
  -- facts without a timetable, Q of each
  abbrev pub Cause : List Alternative → Type 0
  Cause fs = (sound fs ≡ false) × Each Q fs

  abbrev pub Causes : List Row → Type 0
  Causes [] = Unit {0}
  Causes (mark b ∷ r) = Causes r
  Causes (cycle fs ∷ r) = Cause fs × Causes r

  abbrev pub Caused : Outcome → Type 0
  Caused (found p b w) = Unit {0}
  Caused (closed n r w) = Causes r
  Caused (stopped b r p) = Unit {0}

  causes-append : (r s : List Row) → Causes r → Causes s → Causes (r ++ s)
  causes-append [] s h k = k
  causes-append (mark b ∷ r) s h k = causes-append r s h k
  causes-append (cycle fs ∷ r) s h k = (h.0, causes-append r s h.1 k)

  later-caused : (n : ℕ) (r : List Row) (o : Outcome) → Causes r → Caused o → Caused (later n r o)
  unfolding later
  later-caused n r (found p b w) h k = tt
  later-caused n r (closed m s w) h k = causes-append r s h k
  later-caused n r (stopped b s p) h k = tt

  then-caused : (i : ℕ) (o : Outcome) (rest : ℕ → Outcome) → Caused o → ((w : ℕ) → Caused (rest w)) → Caused (and_then i o rest)
  unfolding and_then
  then-caused i (found p b w) rest h k = tt
  then-caused i (closed n r w) rest h k = later-caused n r (rest w) h (k w)
  then-caused i (stopped b r p) rest h k = tt

  -- Q of an alternative and of its opposite
  abbrev pub Both : Alternative → Type 0
  Both a = Q a × Q (opposite a)

  branch-caused : (go : List Alternative → ℕ → Outcome) → ((fs : List Alternative) (v : ℕ) → Each Q fs → Caused (go fs v)) → (i : ℕ) (c : Clause) (fs : List Alternative) (v : ℕ) → Each Both c → Each Q fs → Caused (branch go i c fs v)
  unfolding branch
  branch-caused go h i [] fs v b q = tt
  branch-caused go h i (a ∷ more) fs v b q =
      then-caused i (go (a ∷ fs) v) _ (h (a ∷ fs) v (b.0.0, q)) (λ w. branch-caused go h (suc i) more (opposite a ∷ fs) w b.1 (b.0.1, q))

  enter-caused : (b : Bool) (cs : List Clause) (fs : List Alternative) (v : ℕ) (go : ℕ → Outcome) → sound fs ≡ b → Each Q fs → ((w : ℕ) → Caused (go w)) → Caused (enter b cs fs v go)
  unfolding enter
  enter-caused false cs fs v go e q h = ((e, q), tt)
  enter-caused true cs fs zero go e q h = tt
  enter-caused true cs fs (suc w) go e q h = h w

  cycles-caused : (fs : List Alternative) (c : Clause) → Each Q fs → Each Both c → Each (λ a. sound (a ∷ fs) ≡ false) c → Causes (map (λ a. cycle (a ∷ fs)) c)
  cycles-caused fs [] q b d = tt
  cycles-caused fs (a ∷ more) q b d = ((d.0, (b.0.0, q)), cycles-caused fs more q b.1 d.1)

  every-at : (cs : List Clause) (d : ℕ) → Every Both cs → Each Both (get_or cs d [])
  every-at [] d b = tt
  every-at (c ∷ cs) zero b = b.0
  every-at (c ∷ cs) (suc d) b = every-at cs d b.1

  look-caused : (o : Option ℕ) (k : ℕ) (cs : List Clause) (fs : List Alternative) (w : ℕ) (n : Outcome) → first_dead sound fs cs ≡ o → Every Both cs → Each Q fs → Caused n → Caused (look o k cs fs w n)
  unfolding look
  look-caused (some d) k cs fs w n e b q h = cycles-caused fs (get_or cs d []) q (every-at cs d b) (dead-each sound fs (get_or cs d []) (dead-at sound fs cs d e))
  look-caused none k cs fs w n e b q h = h

  pub search-caused : (cs : List Clause) (k : ℕ) (fs : List Alternative) (v : ℕ) → Every Both cs → Each Q fs → Caused (search sound cs k fs v)
  unfolding search
  search-caused [] k fs v b q = enter-caused (sound fs) [] fs v (λ w. found [] 0 w) refl q (λ w. tt)
  search-caused (c ∷ cs) k fs v b q =
      enter-caused (sound fs) (c ∷ cs) fs v _ refl q
      (λ w.
      look-caused (first_dead sound fs (c ∷ cs)) k (c ∷ cs) fs w _ refl b q
      (later-caused 0 (mark onward_mark ∷ []) _ tt
      (branch-caused (λ f u. search sound cs (suc k) f u) (λ f u p. search-caused cs (suc k) f u b.1 p) 0 c fs w b.0 q)))
