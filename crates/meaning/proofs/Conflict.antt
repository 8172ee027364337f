-- Facts that no timetable satisfies have a closed walk of sum below 0.
-- Fact by fact, numbers (minutes before closing) are kept that meet the facts so far. A fact that they do not meet asks more of its head: that is raised by a minute, and
-- with it every event to which tight facts lead from there. So the facts so far stay met, and the new one is a minute nearer to being so; unless its tail is among
-- the events raised. Then the tight way from its head to its tail, and the fact itself, are closed, and sum below 0. Assumes nothing.
use mathlib.Core.Path.{◌≡◌, refl, sym, ap, ◌∙◌, subst}
use mathlib.Core.Bool.{Bool, true, false, cond, not, ◌&&◌, ◌||◌}
use mathlib.Core.Logic.{◌⊎◌, inl, inr, ⊎_elim}
use mathlib.Core.List.{List, [], ◌∷◌, ◌++◌}
use Prim.Native.Nat.{ℕ, zero, suc, ◌+◌, ◌<◌, ◌≤◌}
use native.Mathlib.Omega.{arith}
use native.Mathlib.Decide.{dec_lt}
use lib.Dec.{T, T_not, leb, eqb, leb→le, le→leb, eqb→eq, eqb_refl}
use lib.IntN.{ℤ, pos, negsuc}
use mir.Facts.{and_yes, yes_and, or_yes, or_no}
use Rattle.laws.proofs.Tests.{is_true}
use Rattle.laws.proofs.Integers.{up, down}
use Rattle.meaning.specs.Problem.{Alternative}
use Rattle.meaning.specs.Decision.{ask, reach, sound}
use Rattle.meaning.proofs.Settling.{Each, each-map₃, In, Meets, tally, tally-most, progress}
use Rattle.meaning.proofs.Ways.{bound_of, Way, rise, fall, Loop, rise-append, fall-append, way-join}
use Rattle.meaning.proofs.Numbered.{Numbered, Own, numbered-own}
use Rattle.meaning.proofs.Deciding.{day, day-satisfies, reach-in, sound-decides}

-- ---- a fact in sums of naturals
meets-sum : (s t : ℕ) (c : ℤ) → ask s c ≤ t → s + down c ≤ t + up c
unfolding ask
meets-sum s t (pos k) h = omega arith
meets-sum s t (negsuc k) h = omega arith

sum_meets : (s t : ℕ) (c : ℤ) → s + down c ≤ t + up c → ask s c ≤ t
unfolding ask
sum_meets s t (pos k) h = omega arith
sum_meets s t (negsuc k) h = omega arith

module _ (fs : List Alternative) where
  -- the way with one fact more
  way_on : (l : List ℕ) (u : ℕ) (a : Alternative) → Own fs a → Way fs u l a.y → Way fs u (l ++ a.no ∷ []) a.x
  way_on l u a o w = way-join fs l (a.no ∷ []) u a.y a.x w (a, o, refl, refl)

  rise-on : (l : List ℕ) (a : Alternative) → Own fs a → rise fs (l ++ a.no ∷ []) ≡ rise fs l + up a.c
  unfolding rise bound_of
  rise-on l a o = rise-append fs l (a.no ∷ []) ∙ rw o (omega arith)

  fall-on : (l : List ℕ) (a : Alternative) → Own fs a → fall fs (l ++ a.no ∷ []) ≡ fall fs l + down a.c
  unfolding fall bound_of
  fall-on l a o = fall-append fs l (a.no ∷ []) ∙ rw o (omega arith)

  -- ---- the events to which tight facts lead
  module _ (σ : ℕ → ℕ) (from : ℕ) where
    -- met, and with no minute to spare
    abbrev tight : Alternative → Bool
    tight a = leb (σ a.x + up a.c) (σ a.y + down a.c)

    -- a way leads there whose sum is just the difference of the numbers
    record Reached (e : ℕ) : Type 0 where
      list : List ℕ
      way : Way fs from list e
      exact : σ from + fall fs list ≡ σ e + rise fs list

    reached-on : (a : Alternative) → Own fs a → Meets σ a → T (tight a) → Reached a.y → Reached a.x
    reached-on a o m t r =
        record {
          list = r.list ++ a.no ∷ [];
          way = way_on r.list from a o r.way;
          exact = omega (arith, r.exact, rise-on r.list a o, fall-on r.list a o, meets-sum (σ a.y) (σ a.x) a.c m, leb→le (σ a.x + up a.c) (σ a.y + down a.c) t);
        }

    -- a tight one of the facts leads there from one of R
    leads : (ℕ → Bool) → List Alternative → ℕ → Bool
    leads R [] e = false
    leads R (a ∷ more) e = R a.y && tight a && eqb a.x e || leads R more e

    -- a set of events to which tight facts lead, the start among them
    record Spread (R : ℕ → Bool) : Type 0 where
      starts : T (R from)
      reached : (e : ℕ) → T (R e) → Reached e

    leads-reached : (R : ℕ → Bool) → Spread R → (gs : List Alternative) → Each (Own fs) gs → Each (Meets σ) gs → (e : ℕ) → T (leads R gs e) → Reached e
    unfolding leads
    leads-reached R s [] o m e t = absurd t
    leads-reached R s (a ∷ more) o m e t = go (or_yes (R a.y && tight a && eqb a.x e) (leads R more e) t) (λ u. leads-reached R s more o.1 m.1 e u)
      where
        go : T (R a.y && tight a && eqb a.x e) ⊎ T (leads R more e) → (T (leads R more e) → Reached e) → Reached e
        go (inl u) later =
            let (v, q) = and_yes (R a.y && tight a) (eqb a.x e) u in
            let (r, k) = and_yes (R a.y) (tight a) v in
            subst Reached (eqb→eq a.x e q) (reached-on a o.0 m.0 k (s.reached a.y r))
        go (inr u) later = later u

    -- tight facts lead from R into R only
    abbrev Shut : (ℕ → Bool) → Alternative → Type 0
    Shut R a = T (R a.y) → T (tight a) → T (R a.x)

    shut : (R : ℕ → Bool) (n : ℕ) (gs : List Alternative) → Each (In n) gs → ((e : ℕ) → e < n → T (not (R e)) → T (not (leads R gs e))) → Each (Shut R) gs
    unfolding leads
    shut R n [] i f = tt
    shut R n (a ∷ more) i f = (
      λ r t. by-test (R a.x) (λ o. absurd (T_not (R a.y && tight a && eqb a.x a.x) (or_no (R a.y && tight a && eqb a.x a.x) (leads R more a.x) (f a.x i.0.0 o)).0 (yes_and (R a.y && tight a) (eqb a.x a.x) (yes_and (R a.y) (tight a) r t) (eqb_refl a.x)))),
      shut R n more i.1 (λ e l o. (or_no (R a.y && tight a && eqb a.x e) (leads R more e) (f e l o)).1),
    )
      where
        by-test : (b : Bool) → (T (not b) → T b) → T b
        by-test true h = tt
        by-test false h = h tt

    -- every event of S a minute further before closing
    abbrev raised : (ℕ → Bool) → ℕ → ℕ
    raised S e = σ e + cond (S e) 1 0

    -- a fact from S into S keeps its difference, one into S gains, and one out of S is not tight where tight facts do not leave S, so it has the minute to spare
    raised-meets : (S : ℕ → Bool) (a : Alternative) → Meets σ a → Shut S a → Meets (raised S) a
    raised-meets S a m f = sum_meets (raised S a.y) (raised S a.x) a.c (go (S a.y) (S a.x) (dec_lt (σ a.y + down a.c) (σ a.x + up a.c)) f)
      where
        h : σ a.y + down a.c ≤ σ a.x + up a.c
        h = meets-sum (σ a.y) (σ a.x) a.c m

        go : (y x : Bool) → Dec (σ a.y + down a.c < σ a.x + up a.c) → (T y → T (tight a) → T x) → σ a.y + cond y 1 0 + down a.c ≤ σ a.x + cond x 1 0 + up a.c
        go false x d f = omega (arith, h)
        go true true d f = omega (arith, h)
        go true false (yes l) f = omega arith
        go true false (no l) f = absurd (f tt (le→leb (σ a.x + up a.c) (σ a.y + down a.c) (omega (arith, l))))

    module _ (gs : List Alternative) (owns : Each (Own fs) gs) (met : Each (Meets σ) gs) where
      -- the events of R, and those to which tight facts lead from there
      abbrev grown : (ℕ → Bool) → ℕ → Bool
      grown R e = R e || leads R gs e

      grown-spread : (R : ℕ → Bool) → Spread R → Spread (grown R)
      grown-spread R s = record { starts = left (R from) (leads R gs from) s.starts; reached = λ e t. ⊎_elim (s.reached e) (leads-reached R s gs owns met e) (or_yes (R e) (leads R gs e) t) }
        where
          left : (a b : Bool) → T a → T (a || b)
          left true b t = tt
          left false b t = absurd t

      module _ (n : ℕ) (inside : Each (In n) gs) where
        fewer-or-shut : (R : ℕ → Bool) → (tally (λ e. not (grown R e)) n < tally (λ e. not (R e)) n) ⊎ Each (Shut R) gs
        fewer-or-shut R = ⊎_elim inl (λ f. inr (shut R n gs inside (λ e l o. (or_no (R e) (leads R gs e) (f e l o)).1))) (progress (λ e. not (R e)) (λ e. not (grown R e)) (λ e t. (or_no (R e) (leads R gs e) t).0) n)

        -- S is R with all that tight facts lead to: each turn adds an event, or there is none to add
        spread : (k : ℕ) (R : ℕ → Bool) → Spread R → tally (λ e. not (R e)) n ≤ k → (S : ℕ → Bool) × Spread S × Each (Shut S) gs
        spread zero R s h = ⊎_elim (λ l. absurd (omega arith)) (λ f. (R, s, f)) (fewer-or-shut R)
        spread (suc k) R s h = ⊎_elim (λ l. spread k (grown R) (grown-spread R s) (omega arith)) (λ f. (R, s, f)) (fewer-or-shut R)

  -- ---- one fact more
  -- numbers that meet the facts
  abbrev Met : List Alternative → Type 0
  Met gs = (σ : ℕ → ℕ) × Each (Meets σ) gs

  module _ (n : ℕ) (a : Alternative) (gs : List Alternative) (inside : Each (In n) gs) (own : Own fs a) (owns : Each (Own fs) gs) where
    -- the tight way from the head to the tail, closed by a fact that is not met
    closes : (σ : ℕ → ℕ) → σ a.x + up a.c < σ a.y + down a.c → Reached σ a.x a.y → (l : List ℕ) × Loop fs l
    closes σ l r = (r.list ++ a.no ∷ [], record { node = a.x; way = way_on r.list a.x a own r.way; below = omega (arith, r.exact, rise-on r.list a own, fall-on r.list a own) })

    -- at most d minutes are lacking: its head is raised by one, with all that tight facts lead to, and one less is lacking; unless they lead to its tail
    push : (d : ℕ) (σ : ℕ → ℕ) → Each (Meets σ) gs → σ a.y + down a.c ≤ σ a.x + up a.c + d → Met (a ∷ gs) ⊎ ((l : List ℕ) × Loop fs l)
    push zero σ m h = inl (σ, (sum_meets (σ a.y) (σ a.x) a.c (omega arith), m))
    push (suc d) σ m h = go (dec_lt (σ a.x + up a.c) (σ a.y + down a.c)) (λ τ k g. push d τ k g)
      where
        go : Dec (σ a.x + up a.c < σ a.y + down a.c) → ((τ : ℕ → ℕ) → Each (Meets τ) gs → τ a.y + down a.c ≤ τ a.x + up a.c + d → Met (a ∷ gs) ⊎ ((l : List ℕ) × Loop fs l)) → Met (a ∷ gs) ⊎ ((l : List ℕ) × Loop fs l)
        go (no l) again = inl (σ, (sum_meets (σ a.y) (σ a.x) a.c (omega (arith, l)), m))
        go (yes l) again =
            let (S, s, f) = spread σ a.x gs owns m n inside n (λ e. eqb a.x e) start (tally-most _ n) in
            turn S s f (S a.y) refl
          where
            start : Spread σ a.x (λ e. eqb a.x e)
            start = record { starts = eqb_refl a.x; reached = λ e t. record { list = []; way = eqb→eq a.x e t; exact = unfold rise fall in ap (λ (e : ℕ). σ e + 0) (eqb→eq a.x e t) } }

            turn : (S : ℕ → Bool) → Spread σ a.x S → Each (Shut σ a.x S) gs → (b : Bool) → S a.y ≡ b → Met (a ∷ gs) ⊎ ((l : List ℕ) × Loop fs l)
            turn S s f true e = inr (closes σ l (s.reached a.y (subst T (sym e) tt)))
            turn S s f false e =
                again (raised σ a.x S) (each-map₃ gs (λ b g k i. raised-meets σ a.x S b g k) m f inside)
                (omega (arith, ap (λ (b : Bool). cond {A = ℕ} b 1 0) e, ap (λ (b : Bool). cond {A = ℕ} b 1 0) (is_true (S a.x) s.starts)))

  -- all facts are met by some numbers, or some of them are closed and sum below 0
  met-or-loop : (n : ℕ) (gs : List Alternative) → Each (In n) gs → Each (Own fs) gs → Met gs ⊎ ((l : List ℕ) × Loop fs l)
  met-or-loop n [] i o = inl ((λ e. 0), tt)
  met-or-loop n (a ∷ more) i o = ⊎_elim (λ m. push n a more i.1 o.0 o.1 (m.0 a.y + down a.c) m.0 m.1 (omega arith)) inr (met-or-loop n more i.1 o.1)

-- facts that their numbers tell apart, and that have no timetable
pub unsound-loop : (f : ℕ → Alternative) (fs : List Alternative) → Numbered f fs → sound fs ≡ false → (l : List ℕ) × Loop fs l
unsound-loop f fs h e = ⊎_elim (λ m. absurd (subst T e (sound-decides.whole fs (day m.0) (day-satisfies m.0 fs m.1)))) (λ l. l) (met-or-loop fs (reach fs) fs (reach-in fs) (numbered-own f fs h))
