-- The quick search returns the first selection in dictionary order that holds, with its rank, or none where none holds.
-- Assumes nothing beyond what it is given: a decision of soundness.
use mathlib.Core.Path.{◌≡◌, refl, sym, ap, ◌∙◌, subst}
use mathlib.Core.Bool.{Bool, true, false, cond}
use mathlib.Core.Logic.{◌⊎◌, inl, inr, ◌↔◌, ⊎_elim}
use mathlib.Core.Option.{Option, some, none, map}
use mathlib.Core.List.{List, [], ◌∷◌}
use Prim.Native.Nat.{ℕ, zero, suc, ◌+◌, ◌<◌, ◌≤◌, zero-le, suc-le-suc}
use native.Mathlib.Nat.{le_of_suc-le-suc, not-suc-le-zero, suc-mul, zero-mul}
use native.Mathlib.Omega.{arith}
use lib.Dec.{T}
use lib.ListN.{length, get_or}
use Rattle.laws.proofs.Tests.{same_test, never}
use Rattle.meaning.specs.Limits.{onward_mark}
use Rattle.meaning.specs.Problem.{Alternative, opposite, Clause, Timetable, satisfied, Satisfies, Sound}
use Rattle.meaning.specs.Plain.{Selection, nowhere, chosen, Holds, ◌≺◌, product, rank}
use Rattle.meaning.specs.Search.{Standing, Row, mark, Outcome, found, closed, stopped, enter, look, later, and_then, branch, dead, first_dead, search, facts, Decides}
use Rattle.meaning.proofs.Opposite.{split}
use Rattle.meaning.proofs.Dictionary.{in-order}

-- no timetable of the facts satisfies a selection of cs
abbrev pub Closed : List Clause → List Alternative → Type 0
Closed cs fs = (q : List ℕ) → Selection cs q → (t : Timetable) → Satisfies t fs → Satisfies t (chosen cs q) → ⊥

-- p is the first selection of cs that a timetable of the facts fs satisfies, and b its rank; the facts of p as a standing have just its timetables
pub record Found (cs : List Clause) (fs : List Alternative) (p : List ℕ) (b : ℕ) : Type 0 where
  pub sel : Selection cs p
  pub day : Sound (facts cs p fs)
  pub under : (t : Timetable) → Satisfies t (facts cs p fs) → Satisfies t fs × Satisfies t (chosen cs p)
  pub over : (t : Timetable) → Satisfies t fs → Satisfies t (chosen cs p) → Satisfies t (facts cs p fs)
  pub first : (q : List ℕ) → Selection cs q → q ≺ p → (t : Timetable) → Satisfies t fs → Satisfies t (chosen cs q) → ⊥
  pub before : b ≡ rank cs p

-- the standing p is sound, b is its rank, and the first b selections are ruled out
pub record Halted (cs : List Clause) (fs : List Alternative) (b : ℕ) (p : List ℕ) : Type 0 where
  pub place : Standing cs p
  pub could : Sound (facts cs p fs)
  pub before : b ≡ rank cs p
  pub within : b ≤ product cs
  pub ruled : (q : List ℕ) → Selection cs q → rank cs q < b → (t : Timetable) → Satisfies t fs → Satisfies t (chosen cs q) → ⊥

abbrev pub Claim : List Clause → List Alternative → Outcome → Type 0
Claim cs fs (found p b w) = Found cs fs p b
Claim cs fs (closed n r w) = Closed cs fs × (n ≡ product cs)
Claim cs fs (stopped b r p) = Halted cs fs b p

-- the first selection in dictionary order that holds
pub record First (cs : List Clause) (p : List ℕ) : Type 0 where
  pub sel : Selection cs p
  pub holds : Holds cs p
  pub first : (q : List ℕ) → Selection cs q → q ≺ p → ¬ Holds cs q

-- the same of the alternatives from position i on
abbrev From : ℕ → Clause → List Clause → List Alternative → Outcome → Type 0
From i c cs fs (found p b w) = (j : ℕ) × (q : List ℕ) × (p ≡ (i + j) ∷ q) × Found (c ∷ cs) fs (j ∷ q) b
From i c cs fs (closed n r w) = Closed (c ∷ cs) fs × (n ≡ product (c ∷ cs))
From i c cs fs (stopped b r p) = (j : ℕ) × (q : List ℕ) × (p ≡ (i + j) ∷ q) × Halted (c ∷ cs) fs b (j ∷ q)

module _ (a : Alternative) (more : Clause) (cs : List Clause) (fs : List Alternative) where
  found_here : (p : List ℕ) (b : ℕ) → Found cs (a ∷ fs) p b → Found ((a ∷ more) ∷ cs) fs (0 ∷ p) b
  unfolding rank
  found_here p b k =
      record {
        sel = (suc-le-suc zero-le, k.sel);
        day = k.day;
        under = λ t h. ((k.under t h).0.1, ((k.under t h).0.0, (k.under t h).1));
        over = λ t h g. k.over t (g.0, h) g.1;
        first = first';
        before = omega (arith, k.before);
      }
    where
      first' : (q : List ℕ) → Selection ((a ∷ more) ∷ cs) q → q ≺ (0 ∷ p) → (t : Timetable) → Satisfies t fs → Satisfies t (chosen ((a ∷ more) ∷ cs) q) → ⊥
      first' [] s l t h g = s
      first' (zero ∷ q) s (inl l) t h g = not-suc-le-zero l
      first' (zero ∷ q) s (inr l) t h g = k.first q s.1 l.1 t (g.0, h) g.1
      first' (suc j ∷ q) s (inl l) t h g = not-suc-le-zero l
      first' (suc j ∷ q) s (inr l) t h g = omega (arith, l.0)

  -- the key: a timetable that satisfies an earlier alternative too would give an earlier selection, which is closed
  turned-away : Closed cs (a ∷ fs) → (q : List ℕ) → Selection cs q → (t : Timetable) → Satisfies t fs → Satisfies t (chosen cs q) → T (satisfied t (opposite a))
  turned-away shut q s t h g = ⊎_elim (λ o. absurd (shut q s t (o, h) g)) (λ o. o) (split t a)

  found-later : (n j : ℕ) (p : List ℕ) (b : ℕ) → Closed cs (a ∷ fs) → n ≡ product cs → Found (more ∷ cs) (opposite a ∷ fs) (j ∷ p) b → Found ((a ∷ more) ∷ cs) fs (suc j ∷ p) (n + b)
  unfolding rank
  found-later n j p b shut e k =
      record {
        sel = (suc-le-suc k.sel.0, k.sel.1);
        day = k.day;
        under = λ t h. ((k.under t h).0.1, (k.under t h).1);
        over = λ t h g. k.over t (turned-away shut p k.sel.1 t h g.1, h) g;
        first = first';
        before = omega (arith, e, k.before, suc-mul j (product cs));
      }
    where
      first' : (q : List ℕ) → Selection ((a ∷ more) ∷ cs) q → q ≺ (suc j ∷ p) → (t : Timetable) → Satisfies t fs → Satisfies t (chosen ((a ∷ more) ∷ cs) q) → ⊥
      first' [] s l t h g = s
      first' (zero ∷ q) s l t h g = shut q s.1 t (g.0, h) g.1
      first' (suc i ∷ q) s (inl l) t h g =
          k.first (i ∷ q) (le_of_suc-le-suc s.0, s.1) (inl (le_of_suc-le-suc l)) t (turned-away shut q s.1 t h g.1, h) g
      first' (suc i ∷ q) s (inr l) t h g =
          k.first (i ∷ q) (le_of_suc-le-suc s.0, s.1) (inr (omega (arith, l.0), l.1)) t (turned-away shut q s.1 t h g.1, h) g

  pub closed-both : Closed cs (a ∷ fs) → Closed (more ∷ cs) (opposite a ∷ fs) → Closed ((a ∷ more) ∷ cs) fs
  closed-both shut rest [] s t h g = s
  closed-both shut rest (zero ∷ q) s t h g = shut q s.1 t (g.0, h) g.1
  closed-both shut rest (suc i ∷ q) s t h g =
      rest (i ∷ q) (le_of_suc-le-suc s.0, s.1) t (turned-away shut q s.1 t h g.1, h) g

  halted-here : (b : ℕ) (p : List ℕ) → Halted cs (a ∷ fs) b p → Halted ((a ∷ more) ∷ cs) fs b (0 ∷ p)
  unfolding rank product
  halted-here b p k = record { place = (suc-le-suc zero-le, k.place); could = k.could; before = omega (arith, k.before); within = omega (arith, k.within, suc-mul (length more) (product cs)); ruled = ruled' }
    where
      ruled' : (q : List ℕ) → Selection ((a ∷ more) ∷ cs) q → rank ((a ∷ more) ∷ cs) q < b → (t : Timetable) → Satisfies t fs → Satisfies t (chosen ((a ∷ more) ∷ cs) q) → ⊥
      ruled' [] s l t h g = s
      ruled' (zero ∷ q) s l t h g = k.ruled q s.1 (omega arith) t (g.0, h) g.1
      ruled' (suc i ∷ q) s l t h g = omega (arith, k.within, suc-mul i (product cs))

  halted-later : (n b j : ℕ) (p : List ℕ) → Closed cs (a ∷ fs) → n ≡ product cs → Halted (more ∷ cs) (opposite a ∷ fs) b (j ∷ p) → Halted ((a ∷ more) ∷ cs) fs (n + b) (suc j ∷ p)
  unfolding rank product
  halted-later n b j p shut e k = record { place = (suc-le-suc k.place.0, k.place.1); could = k.could; before = omega (arith, e, k.before, suc-mul j (product cs)); within = omega (arith, k.within, suc-mul (length more) (product cs)); ruled = ruled' }
    where
      ruled' : (q : List ℕ) → Selection ((a ∷ more) ∷ cs) q → rank ((a ∷ more) ∷ cs) q < n + b → (t : Timetable) → Satisfies t fs → Satisfies t (chosen ((a ∷ more) ∷ cs) q) → ⊥
      ruled' [] s l t h g = s
      ruled' (zero ∷ q) s l t h g = shut q s.1 t (g.0, h) g.1
      ruled' (suc i ∷ q) s l t h g =
          k.ruled (i ∷ q) (le_of_suc-le-suc s.0, s.1) (omega (arith, suc-mul i (product cs))) t
          (turned-away shut q s.1 t h g.1, h) g

  later-from : (i n : ℕ) (r : List Row) (o : Outcome) → Closed cs (a ∷ fs) → n ≡ product cs → From (suc i) more cs (opposite a ∷ fs) o → From i (a ∷ more) cs fs (later n r o)
  unfolding later product
  later-from i n r (found p b w) shut e (j, q, eq, k) = (suc j, q, eq ∙ ap (λ (m : ℕ). m ∷ q) (omega arith), found-later n j q b shut e k)
  later-from i n r (closed m s w) shut e k = (closed-both shut k.0, omega (arith, e, k.1, suc-mul (length more) (product cs)))
  later-from i n r (stopped b s p) shut e (j, q, eq, k) = (suc j, q, eq ∙ ap (λ (m : ℕ). m ∷ q) (omega arith), halted-later n b j q shut e k)

  then-from : (i : ℕ) (o : Outcome) (rest : ℕ → Outcome) → Claim cs (a ∷ fs) o → ((w : ℕ) → From (suc i) more cs (opposite a ∷ fs) (rest w)) → From i (a ∷ more) cs fs (and_then i o rest)
  unfolding and_then
  then-from i (found p b w) rest k g = (0, p, ap (λ (m : ℕ). m ∷ p) (omega arith), found_here p b k)
  then-from i (closed n r w) rest k g = later-from i n r (rest w) k.0 k.1 (g w)
  then-from i (stopped b r p) rest k g = (0, p, ap (λ (m : ℕ). m ∷ p) (omega arith), halted-here b p k)

-- an empty clause closes everything
pub closed-empty : (cs : List Clause) (fs : List Alternative) → Closed ([] ∷ cs) fs
closed-empty cs fs [] s t k g = s
closed-empty cs fs (j ∷ q) s t k g = not-suc-le-zero s.0

branch-from : (go : List Alternative → ℕ → Outcome) (cs : List Clause) → ((fs : List Alternative) (v : ℕ) → Claim cs fs (go fs v)) → (i : ℕ) (c : Clause) (fs : List Alternative) (v : ℕ) → From i c cs fs (branch go i c fs v)
unfolding branch product
branch-from go cs h i [] fs v = (closed-empty cs fs, omega (arith, zero-mul (product cs)))
branch-from go cs h i (a ∷ more) fs v =
    then-from a more cs fs i (go (a ∷ fs) v) (λ w. branch go (suc i) more (opposite a ∷ fs) w) (h (a ∷ fs) v)
    (λ w. branch-from go cs h (suc i) more (opposite a ∷ fs) w)

-- from position 0 on is the whole
whole-clause : (c : Clause) (cs : List Clause) (fs : List Alternative) (r : List Row) (o : Outcome) → From 0 c cs fs o → Claim (c ∷ cs) fs (later 0 r o)
unfolding later
whole-clause c cs fs r (found p b w) (j, q, e, k) =
    subst (λ (m : ℕ). Found (c ∷ cs) fs p m) (omega arith)
    (subst (λ (l : List ℕ). Found (c ∷ cs) fs l b) (sym (e ∙ ap (λ (m : ℕ). m ∷ q) (omega arith))) k)
whole-clause c cs fs r (closed n s w) k = (k.0, omega (arith, k.1))
whole-clause c cs fs r (stopped b s p) (j, q, e, k) =
    subst (λ (m : ℕ). Halted (c ∷ cs) fs m p) (omega arith)
    (subst (λ (l : List ℕ). Halted (c ∷ cs) fs b l) (sym (e ∙ ap (λ (m : ℕ). m ∷ q) (omega arith))) k)

pub unsound-first : (b r : Bool) → cond b false r ≡ true → (b ≡ false) × (r ≡ true)
unsound-first true r e = absurd (never (cc))
unsound-first false r e = (refl, e)

dead-first : (b : Bool) (o : Option ℕ) (d : ℕ) → cond b (some 0) (map suc o) ≡ some d → (b ≡ true) ⊎ ((m : ℕ) × (o ≡ some m))
dead-first true o d e = inl refl
dead-first false none d e = absurd (never (cc))
dead-first false (some m) d e = inr (m, refl)

pub rank-none : (cs : List Clause) → 0 ≡ rank cs []
unfolding rank
rank-none [] = refl
rank-none (c ∷ cs) = refl

facts-none : (cs : List Clause) (fs : List Alternative) → fs ≡ facts cs [] fs
facts-none [] fs = refl
facts-none (c ∷ cs) fs = refl

unvisited : (cs : List Clause) (fs : List Alternative) → Sound fs → Halted cs fs 0 []
unvisited cs fs y =
    record {
      place = tt;
      could = subst Sound (facts-none cs fs) y;
      before = rank-none cs;
      within = zero-le;
      ruled = λ q s l t h g. not-suc-le-zero l;
    }

at-end : (fs : List Alternative) → Sound fs → Found [] fs [] 0
unfolding rank
at-end fs y =
    record {
      sel = tt;
      day = y;
      under = λ t h. (h, tt);
      over = λ t h g. h;
      first = first';
      before = refl;
    }
  where
    first' : (q : List ℕ) → Selection [] q → q ≺ [] → (t : Timetable) → Satisfies t fs → Satisfies t (chosen [] q) → ⊥
    first' [] s l t h g = l
    first' (i ∷ q) s l t h g = s

module _ (sound : List Alternative → Bool) (sure : Decides sound) where
  unsound-closed : (cs : List Clause) (fs : List Alternative) → sound fs ≡ false → Closed cs fs
  unsound-closed cs fs e q s t h g = subst T e (sure.whole fs t h)

  enter-claim : (cs : List Clause) (fs : List Alternative) (v : ℕ) (go : ℕ → Outcome) (b : Bool) → sound fs ≡ b → (T b → (w : ℕ) → Claim cs fs (go w)) → Claim cs fs (enter b cs fs v go)
  unfolding enter
  enter-claim cs fs v go false e k = (unsound-closed cs fs e, refl)
  enter-claim cs fs zero go true e k = unvisited cs fs (sure.right fs (subst T (sym e) tt))
  enter-claim cs fs (suc w) go true e k = k tt w

  dead-none : (fs : List Alternative) (c : Clause) → dead sound fs c ≡ true → (i : ℕ) → i < length c → (t : Timetable) → Satisfies t fs → T (satisfied t (get_or c i nowhere)) → ⊥
  unfolding dead
  dead-none fs [] e i l t h g = not-suc-le-zero l
  dead-none fs (a ∷ more) e zero l t h g =
      subst T (unsound-first (sound (a ∷ fs)) (dead sound fs more) e).0 (sure.whole (a ∷ fs) t (g, h))
  dead-none fs (a ∷ more) e (suc i) l t h g =
      dead-none fs more (unsound-first (sound (a ∷ fs)) (dead sound fs more) e).1 i (le_of_suc-le-suc l) t h g

  dead-closed : (fs : List Alternative) (cs : List Clause) (d : ℕ) → first_dead sound fs cs ≡ some d → Closed cs fs
  unfolding first_dead
  dead-closed fs [] d e q s t h g = never (cc)
  dead-closed fs (c ∷ cs) d e [] s t h g = s
  dead-closed fs (c ∷ cs) d e (i ∷ q) s t h g =
      ⊎_elim (λ l. dead-none fs c l i s.0 t h g.0)
      (λ m. dead-closed fs cs m.0 m.1 q s.1 t h g.1)
      (dead-first (dead sound fs c) (first_dead sound fs cs) d e)

  look-claim : (cs : List Clause) (fs : List Alternative) (k w : ℕ) (next : Outcome) (o : Option ℕ) → first_dead sound fs cs ≡ o → Claim cs fs next → Claim cs fs (look o k cs fs w next)
  unfolding look
  look-claim cs fs k w next (some d) e h = (dead-closed fs cs d e, refl)
  look-claim cs fs k w next none e h = h

  pub search-claim : (cs : List Clause) (k : ℕ) (fs : List Alternative) (v : ℕ) → Claim cs fs (search sound cs k fs v)
  unfolding search
  search-claim [] k fs v = enter-claim [] fs v (λ w. found [] 0 w) (sound fs) refl (λ y w. at-end fs (sure.right fs y))
  search-claim (c ∷ cs) k fs v = enter-claim (c ∷ cs) fs v _ (sound fs) refl (λ y w. look-claim (c ∷ cs) fs k w _ (first_dead sound fs (c ∷ cs)) refl (whole-clause c cs fs (mark onward_mark ∷ []) _ (branch-from (λ f u. search sound cs (suc k) f u) cs (λ f u. search-claim cs (suc k) f u) 0 c fs w)))

  -- demand 3, a plan: the first selection in dictionary order that holds, with its rank, and the timetables of its facts are those of its alternatives
  pub plan-first : (cs : List Clause) (v : ℕ) (p : List ℕ) (b w : ℕ) → search sound cs 0 [] v ≡ found p b w → First cs p × (b ≡ rank cs p) × ((t : Timetable) → Satisfies t (facts cs p []) ↔ Satisfies t (chosen cs p))
  plan-first cs v p b w e =
      let k : Found cs [] p b = subst (Claim cs []) e (search-claim cs 0 [] v) in (
        record {
          sel = k.sel;
          holds = (k.day.0, (k.under k.day.0 k.day.1).1);
          first = λ q s l h. k.first q s l h.0 tt h.1;
        },
        k.before,
        λ t. (λ h. (k.under t h).1, λ h. k.over t tt h),
      )

  -- none: no selection holds, and all are counted
  pub none-holds : (cs : List Clause) (v n : ℕ) (r : List Row) (w : ℕ) → search sound cs 0 [] v ≡ closed n r w → ((q : List ℕ) → Selection cs q → ¬ Holds cs q) × (n ≡ product cs)
  none-holds cs v n r w e =
      let k : Closed cs [] × (n ≡ product cs) = subst (Claim cs []) e (search-claim cs 0 [] v) in
      (λ q s h. k.0 q s h.0 tt h.1, k.1)

  -- a stop: before is the rank of a sound standing
  pub stop-place : (cs : List Clause) (v b : ℕ) (r : List Row) (p : List ℕ) → search sound cs 0 [] v ≡ stopped b r p → Standing cs p × Sound (facts cs p []) × (b ≡ rank cs p)
  stop-place cs v b r p e =
      let k : Halted cs [] b p = subst (Claim cs []) e (search-claim cs 0 [] v) in
      (k.place, k.could, k.before)

  -- a stop: the selections before are ruled out
  pub stop-rules : (cs : List Clause) (v b : ℕ) (r : List Row) (p : List ℕ) → search sound cs 0 [] v ≡ stopped b r p → (q : List ℕ) → Selection cs q → rank cs q < b → ¬ Holds cs q
  stop-rules cs v b r p e q s l h =
      let k : Halted cs [] b p = subst (Claim cs []) e (search-claim cs 0 [] v) in
      k.ruled q s l h.0 tt h.1

selection-length : (cs : List Clause) (p : List ℕ) → Selection cs p → length p ≡ length cs
selection-length [] [] s = refl
selection-length [] (i ∷ p) s = absurd s
selection-length (c ∷ cs) [] s = absurd s
selection-length (c ∷ cs) (i ∷ p) s = ap suc (selection-length cs p s.1)

-- of two selections one is before the other, unless they are the same
pub order : (cs : List Clause) (p q : List ℕ) → Selection cs p → Selection cs q → (p ≺ q) ⊎ ((p ≡ q) ⊎ (q ≺ p))
order cs p q s r = in-order p q (selection-length cs p s ∙ sym (selection-length cs q r))

-- there is one first selection
pub first_one : (cs : List Clause) (p q : List ℕ) → First cs p → First cs q → p ≡ q
first_one cs p q f g = pick (order cs p q f.sel g.sel)
  where
    pick : (p ≺ q) ⊎ ((p ≡ q) ⊎ (q ≺ p)) → p ≡ q
    pick (inl l) = absurd (g.first p f.sel l f.holds)
    pick (inr (inl e)) = e
    pick (inr (inr l)) = absurd (f.first q g.sel l g.holds)

-- facts with the same timetables are as sound: their order and their copies do not count
pub sound-same : (sound : List Alternative → Bool) → Decides sound → (fs gs : List Alternative) → ((t : Timetable) → Satisfies t fs → Satisfies t gs) → ((t : Timetable) → Satisfies t gs → Satisfies t fs) → sound fs ≡ sound gs
sound-same sound h fs gs f g =
    same_test (sound fs) (sound gs) (λ t. let y : Sound fs = h.right fs t in h.whole gs y.0 (f y.0 y.1)) (λ t. let y : Sound gs = h.right gs t in h.whole fs y.0 (g y.0 y.1))
