-- Visits: a search never has more left than it was given, one that stops needs more than it was given, and enough of them always suffice. Assumes nothing.
use mathlib.Core.Path.{◌≡◌, refl, sym, ap, ◌∙◌, subst}
use mathlib.Core.Bool.{Bool, true, false}
use mathlib.Core.Logic.{◌⊎◌, inl, inr, ⊎_elim, by_cases, ◌↔◌}
use mathlib.Core.Option.{Option, some, none}
use mathlib.Core.List.{List, [], ◌∷◌}
use Prim.Native.Nat.{ℕ, zero, suc, ◌+◌, ◌-◌, ◌*◌, ◌<◌, ◌≤◌}
use native.Mathlib.Nat.{le_refl, le_trans, suc-mul, zero-mul, le_of_suc-le-suc, not-suc-le-zero}
use native.Mathlib.Decide.{dec_lt}
use native.Mathlib.Omega.{arith}
use lib.ListN.{length}
use Rattle.laws.proofs.Tests.{is_true}
use Rattle.meaning.specs.Limits.{onward_mark}
use Rattle.meaning.specs.Problem.{Alternative, opposite, Clause}
use Rattle.meaning.specs.Search.{Standing, taking, facts, Row, mark, Outcome, found, closed, stopped, enter, look, later, and_then, branch, again, first_dead, search, resume, Decides}
use Rattle.meaning.proofs.Carry.{extend, carry}
use Rattle.meaning.proofs.First.{stop-place}

-- ---- no more left than given
-- at most v visits are left
abbrev pub Left : ℕ → Outcome → Type 0
Left v (found p b w) = w ≤ v
Left v (closed n r w) = w ≤ v
Left v (stopped b r p) = Unit {0}

left-more : (u v : ℕ) (o : Outcome) → u ≤ v → Left u o → Left v o
left-more u v (found p b w) l h = le_trans h l
left-more u v (closed n r w) l h = le_trans h l
left-more u v (stopped b r p) l h = tt

later-left : (v n : ℕ) (r : List Row) (o : Outcome) → Left v o → Left v (later n r o)
unfolding later
later-left v n r (found p b w) h = h
later-left v n r (closed m s w) h = h
later-left v n r (stopped b s p) h = tt

then-left : (v i : ℕ) (o : Outcome) (rest : ℕ → Outcome) → Left v o → ((w : ℕ) → Left w (rest w)) → Left v (and_then i o rest)
unfolding and_then
then-left v i (found p b w) rest h k = h
then-left v i (closed n r w) rest h k = later-left v n r (rest w) (left-more w v (rest w) h (k w))
then-left v i (stopped b r p) rest h k = tt

branch-left : (go : List Alternative → ℕ → Outcome) → ((fs : List Alternative) (v : ℕ) → Left v (go fs v)) → (i : ℕ) (c : Clause) (fs : List Alternative) (v : ℕ) → Left v (branch go i c fs v)
unfolding branch
branch-left go h i [] fs v = le_refl v
branch-left go h i (a ∷ more) fs v =
    then-left v i (go (a ∷ fs) v) _ (h (a ∷ fs) v) (λ w. branch-left go h (suc i) more (opposite a ∷ fs) w)

again-left : (re go : List Alternative → ℕ → Outcome) → ((fs : List Alternative) (v : ℕ) → Left v (go fs v)) → (u i j : ℕ) (c : Clause) (fs : List Alternative) (v : ℕ) → j < length c → Left u (re (taking j c fs) v) → Left u (again re go i j c fs v)
unfolding again
again-left re go h u i j [] fs v l k = absurd (not-suc-le-zero l)
again-left re go h u i zero (a ∷ more) fs v l k =
    then-left u i (re (a ∷ fs) v) _ k (λ w. branch-left go h (suc i) more (opposite a ∷ fs) w)
again-left re go h u i (suc j) (a ∷ more) fs v l k = again-left re go h u (suc i) j more (opposite a ∷ fs) v (le_of_suc-le-suc l) k

-- what a visit costs
cost : Bool → ℕ
cost true = 1
cost false = 0

enter-left : (b : Bool) (cs : List Clause) (fs : List Alternative) (v : ℕ) (go : ℕ → Outcome) → ((w : ℕ) → Left w (go w)) → Left (v - cost b) (enter b cs fs v go)
unfolding enter cost
enter-left false cs fs v go h = omega arith
enter-left true cs fs zero go h = tt
enter-left true cs fs (suc w) go h = left-more w (suc w - 1) (go w) (omega arith) (h w)

look-left : (o : Option ℕ) (k : ℕ) (cs : List Clause) (fs : List Alternative) (w : ℕ) (n : Outcome) → Left w n → Left w (look o k cs fs w n)
unfolding look
look-left (some d) k cs fs w n h = le_refl w
look-left none k cs fs w n h = h

module _ (sound : List Alternative → Bool) where
  search-left : (cs : List Clause) (k : ℕ) (fs : List Alternative) (v : ℕ) → Left (v - cost (sound fs)) (search sound cs k fs v)
  unfolding search
  search-left [] k fs v = enter-left (sound fs) [] fs v (λ w. found [] 0 w) (λ w. le_refl w)
  search-left (c ∷ cs) k fs v =
      enter-left (sound fs) (c ∷ cs) fs v _
      (λ w. look-left (first_dead sound fs (c ∷ cs)) k (c ∷ cs) fs w _ (later-left w 0 (mark onward_mark ∷ []) _ (branch-left (λ f u. search sound cs (suc k) f u) (λ f u. search-under cs (suc k) f u (search-left cs (suc k) f u)) 0 c fs w)))
    where
      search-under : (cs : List Clause) (k : ℕ) (f : List Alternative) (u : ℕ) → Left (u - cost (sound f)) (search sound cs k f u) → Left u (search sound cs k f u)
      search-under cs k f u h = left-more (u - cost (sound f)) u (search sound cs k f u) (omega arith) h

  under : (cs : List Clause) (k : ℕ) (fs : List Alternative) (v : ℕ) → Left v (search sound cs k fs v)
  under cs k fs v = left-more (v - cost (sound fs)) v (search sound cs k fs v) (omega arith) (search-left cs k fs v)

  -- carried on from a sound standing, a search spends a visit
  resume-left : (cs : List Clause) (k : ℕ) (p : List ℕ) (fs : List Alternative) (v : ℕ) → Standing cs p → sound (facts cs p fs) ≡ true → Left (v - 1) (resume sound cs k p fs v)
  unfolding resume cost
  resume-left [] k [] fs v s e = subst (λ (b : Bool). Left (v - cost b) (search sound [] k fs v)) e (search-left [] k fs v)
  resume-left [] k (i ∷ p) fs v s e = absurd s
  resume-left (c ∷ cs) k [] fs v s e = subst (λ (b : Bool). Left (v - cost b) (search sound (c ∷ cs) k fs v)) e (search-left (c ∷ cs) k fs v)
  resume-left (c ∷ cs) k (j ∷ p) fs v s e =
      again-left (λ f u. resume sound cs (suc k) p f u) (λ f u. search sound cs (suc k) f u) (λ f u. under cs (suc k) f u) (v - 1) 0 j c fs v s.0
      (resume-left cs (suc k) p (taking j c fs) v s.1 e)

-- ---- a stop happens exactly when more visits are needed
abbrev pub Stops : Outcome → Type 0
Stops (found p b w) = ⊥
Stops (closed n r w) = ⊥
Stops (stopped b r p) = Unit {0}

-- the outcome is a plan or a none, and u of its v visits were spent
abbrev pub Spends : ℕ → ℕ → Outcome → Type 0
Spends v u (found p b w) = u + w ≡ v
Spends v u (closed n r w) = u + w ≡ v
Spends v u (stopped b r p) = ⊥

stops-or-spends : (v : ℕ) (o : Outcome) → Left v o → Stops o ⊎ ((u : ℕ) × Spends v u o)
stops-or-spends v (found p b w) h = inr (v - w, omega arith)
stops-or-spends v (closed n r w) h = inr (v - w, omega arith)
stops-or-spends v (stopped b r p) h = inl tt

spends-one : (v u w : ℕ) (o : Outcome) → Spends v u o → Spends v w o → u ≡ w
spends-one v u w (found p b l) h k = omega arith
spends-one v u w (closed n r l) h k = omega arith
spends-one v u w (stopped b r p) h k = absurd h

spends-within : (v u : ℕ) (o : Outcome) → Spends v u o → u ≤ v
spends-within v u (found p b w) h = omega arith
spends-within v u (closed n r w) h = omega arith
spends-within v u (stopped b r p) h = absurd h

never_both : (v u : ℕ) (o : Outcome) → Stops o → Spends v u o → ⊥
never_both v u (found p b w) h k = h
never_both v u (closed n r w) h k = h
never_both v u (stopped b r p) h k = k

module _ (sound : List Alternative → Bool) (sure : Decides sound) (cs : List Clause) where
  extend-spends : (v e u : ℕ) (re : List ℕ → Outcome) (o : Outcome) → Spends v u o → Spends (v + e) u (extend re e o)
  unfolding extend
  extend-spends v e u re (found p b w) s = omega arith
  extend-spends v e u re (closed n r w) s = omega arith
  extend-spends v e u re (stopped b r p) s = absurd s

  -- a search that ends spends the same with more visits
  pub ends-alike : (v e u : ℕ) → Spends v u (search sound cs 0 [] v) → Spends (v + e) u (search sound cs 0 [] (v + e))
  ends-alike v e u h =
      subst (Spends (v + e) u) (sym (carry sound cs 0 [] v e)) (extend-spends v e u _ (search sound cs 0 [] v) h)

  later-spends : (v u n e : ℕ) (r : List Row) (o : Outcome) → Left e o → Spends (v + suc e) u (later n r o) → v < u
  unfolding later
  later-spends v u n e r (found p b w) l h = omega arith
  later-spends v u n e r (closed m s w) l h = omega arith
  later-spends v u n e r (stopped b s p) l h = absurd h

  stop-needs : (v e u : ℕ) (o : Outcome) → search sound cs 0 [] v ≡ o → Stops o → Spends (v + e) u (search sound cs 0 [] (v + e)) → v < u
  unfolding extend
  stop-needs v e u (found p b w) d s h = absurd s
  stop-needs v e u (closed n r w) d s h = absurd s
  stop-needs v zero u (stopped b r p) d s h =
      absurd (subst (Spends (v + 0) u) (ap (search sound cs 0 []) (let q : v + 0 ≡ v = omega arith in q) ∙ d) h)
  stop-needs v (suc e) u (stopped b r p) d s h =
      let k = stop-place sound sure cs v b r p d in
      later-spends v u b e r (resume sound cs 0 p [] (suc e))
      (left-more (suc e - 1) e (resume sound cs 0 p [] (suc e)) (omega arith) (resume-left sound cs 0 p [] (suc e) k.0 (is_true _ (sure.whole _ k.1.0 k.1.1))))
      (subst (Spends (v + suc e) u) (carry sound cs 0 [] v (suc e) ∙ carried) h)
    where
      carried : extend (λ q. resume sound cs 0 q [] (suc e)) (suc e) (search sound cs 0 [] v) ≡ later b r (resume sound cs 0 p [] (suc e))
      carried = ap (extend (λ q. resume sound cs 0 q [] (suc e)) (suc e)) d

  -- where the search ends after u visits, it stops exactly with an allowance below u
  pub stops-exactly : (a u : ℕ) → Spends a u (search sound cs 0 [] a) → (v : ℕ) → Stops (search sound cs 0 [] v) ↔ (v < u)
  stops-exactly a u h v = (stop-short, short-stops)
    where
      ended : (a v : ℕ) → a ≤ v → Spends a u (search sound cs 0 [] a) → Spends v u (search sound cs 0 [] v)
      ended a v l k = subst (λ (m : ℕ). Spends m u (search sound cs 0 [] m)) (let q : a + (v - a) ≡ v = omega arith in q) (ends-alike a (v - a) u k)

      stop-short : Stops (search sound cs 0 [] v) → v < u
      stop-short s =
          by_cases (dec_lt v a)
          (λ l. stop-needs v (a - v) u (search sound cs 0 [] v) refl s (subst (λ (m : ℕ). Spends m u (search sound cs 0 [] m)) (let q : a ≡ v + (a - v) = omega arith in q) h))
          (λ l. absurd (never_both v u (search sound cs 0 [] v) s (ended a v (omega arith) h)))

      short-stops : v < u → Stops (search sound cs 0 [] v)
      short-stops l =
          ⊎_elim (λ s. s)
          (λ (w, k).
          let more : v ≤ a = le_trans (omega arith) (spends-within a u (search sound cs 0 [] a) h) in
          let same : w ≡ u = spends-one a w u (search sound cs 0 [] a) (subst (λ (m : ℕ). Spends m w (search sound cs 0 [] m)) (let q : v + (a - v) ≡ a = omega arith in q) (ends-alike v (a - v) w k)) h in
          absurd (clash (spends-within v w (search sound cs 0 [] v) k) same))
          (stops-or-spends v (search sound cs 0 [] v) (under sound cs 0 [] v))
        where
          clash : {w : ℕ} → w ≤ v → w ≡ u → ⊥
          clash h e = omega arith

-- ---- so many visits always suffice
pub need : List Clause → ℕ
need [] = 1
need (c ∷ cs) = suc (length c * need cs)

-- no stop, and at least e visits left unless a plan is found
abbrev Ample : ℕ → Outcome → Type 0
Ample e (found p b w) = Unit {0}
Ample e (closed n r w) = e ≤ w
Ample e (stopped b r p) = ⊥

later-ample : (e n : ℕ) (r : List Row) (o : Outcome) → Ample e o → Ample e (later n r o)
unfolding later
later-ample e n r (found p b w) h = tt
later-ample e n r (closed m s w) h = h
later-ample e n r (stopped b s p) h = h

then-ample : (e f i : ℕ) (o : Outcome) (rest : ℕ → Outcome) → Ample e o → ((w : ℕ) → e ≤ w → Ample f (rest w)) → Ample f (and_then i o rest)
unfolding and_then
then-ample e f i (found p b w) rest h k = tt
then-ample e f i (closed n r w) rest h k = later-ample f n r (rest w) (k w h)
then-ample e f i (stopped b r p) rest h k = absurd h

branch-ample : (go : List Alternative → ℕ → Outcome) (N : ℕ) → ((fs : List Alternative) (v e : ℕ) → N + e ≤ v → Ample e (go fs v)) → (i : ℕ) (c : Clause) (fs : List Alternative) (v e : ℕ) → length c * N + e ≤ v → Ample e (branch go i c fs v)
unfolding branch
branch-ample go N h i [] fs v e l = omega (arith, zero-mul N)
branch-ample go N h i (a ∷ more) fs v e l =
    then-ample (length more * N + e) e i (go (a ∷ fs) v) _ (h (a ∷ fs) v (length more * N + e) (omega (arith, suc-mul (length more) N)))
    (λ w m. branch-ample go N h (suc i) more (opposite a ∷ fs) w e m)

enter-ample : (b : Bool) (cs : List Clause) (fs : List Alternative) (v e : ℕ) (go : ℕ → Outcome) → 0 < v → e ≤ v → ((w : ℕ) → v ≡ suc w → Ample e (go w)) → Ample e (enter b cs fs v go)
unfolding enter
enter-ample false cs fs v e go l m h = m
enter-ample true cs fs zero e go l m h = not-suc-le-zero l
enter-ample true cs fs (suc w) e go l m h = h w refl

look-ample : (o : Option ℕ) (k : ℕ) (cs : List Clause) (fs : List Alternative) (w e : ℕ) (n : Outcome) → e ≤ w → Ample e n → Ample e (look o k cs fs w n)
unfolding look
look-ample (some d) k cs fs w e n l h = l
look-ample none k cs fs w e n l h = h

search-ample : (sound : List Alternative → Bool) (cs : List Clause) (k : ℕ) (fs : List Alternative) (v e : ℕ) → need cs + e ≤ v → Ample e (search sound cs k fs v)
unfolding search need
search-ample sound [] k fs v e l = enter-ample (sound fs) [] fs v e (λ w. found [] 0 w) (omega arith) (omega arith) (λ w q. tt)
search-ample sound (c ∷ cs) k fs v e l =
    enter-ample (sound fs) (c ∷ cs) fs v e _ (omega arith) (omega arith)
    (λ w q. look-ample (first_dead sound fs (c ∷ cs)) k (c ∷ cs) fs w e _ (omega arith) (later-ample e 0 (mark onward_mark ∷ []) _ (branch-ample (λ f u. search sound cs (suc k) f u) (need cs) (λ f u d m. search-ample sound cs (suc k) f u d m) 0 c fs w e (omega arith))))

-- a search with that many does not stop
pub enough : (sound : List Alternative → Bool) (cs : List Clause) (v : ℕ) → need cs ≤ v → Stops (search sound cs 0 [] v) → ⊥
enough sound cs v l s = go (search sound cs 0 [] v) (search-ample sound cs 0 [] v 0 (omega arith)) s
  where
    go : (o : Outcome) → Ample 0 o → Stops o → ⊥
    go (found p b w) h k = k
    go (closed n r w) h k = k
    go (stopped b r p) h k = h
