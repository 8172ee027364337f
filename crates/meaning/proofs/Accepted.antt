-- What an accepted problem is: its events lie below n and no alternative holds one against itself, its bounds and its sizes lie within their limits.
-- Assumes nothing.
use mathlib.Core.Path.{◌≡◌, refl, sym, ap}
use mathlib.Core.Bool.{Bool, true, false, ◌&&◌, ◌||◌}
use mathlib.Core.List.{List, [], ◌∷◌}
use Prim.Native.Nat.{ℕ, zero, suc, ◌+◌, ◌-◌, ◌*◌, ◌/◌, ◌%◌, ◌<◌, ◌≤◌}
use native.Mathlib.Nat.{not-suc-le-zero, le_of_suc-le-suc, le_antisymm}
use native.Mathlib.Omega.{arith}
use lib.Dec.{T, leb, ltb, eqb, leb→le, ltb→lt, eqb→eq}
use lib.IntN.{ℤ, pos, negsuc, nat_abs}
use lib.Signed.{lt_z, lt_z_yes, <ℤ_irrefl}
use lib.ListN.{length, get_or, take, drop, length-take, length-drop}
use mir.Facts.{and_yes, or_yes}
use borrow.Author.Tests.{ltb-false}
use mathlib.Core.Logic.{⊎_elim}
use Rattle.meaning.specs.Limits.{most_events, most_clauses, most_in_clause, most_alternatives, most_bound}
use Rattle.meaning.specs.Problem.{Alternative, Clause}
use Rattle.meaning.specs.Plain.{Selection, nowhere, chosen}
use Rattle.meaning.specs.Screen.{Lent, alternatives, parted, clauses_of, stepped, events, bounds, is_event, are_events, are_apart, is_bound, problem_tests, problem_refusal}
use Rattle.meaning.proofs.Settling.{Each, In}
use Rattle.meaning.proofs.Rows.{Short}
use Rattle.meaning.proofs.Refusals.{tests-passed}

-- ---- every alternative of every clause
abbrev pub Every : (Alternative → Type 0) → List Clause → Type 0
Every P [] = Unit {0}
Every P (c ∷ cs) = Each P c × Every P cs

-- two events are named: no arc leads from an event to itself
abbrev pub Apart : Alternative → Type 0
Apart a = a.x ≡ a.y → ⊥

-- the bound lies within its limits
abbrev pub Bounded : Alternative → Type 0
Bounded a = nat_abs a.c ≤ most_bound

-- what holds of every one, and what else does
pub every-both : (P Q : Alternative → Type 0) (cs : List Clause) → Every P cs → Every Q cs → Every (λ a. P a × Q a) cs
every-both P Q [] p q = tt
every-both P Q (c ∷ cs) p q = (each_both c p.0 q.0, every-both P Q cs p.1 q.1)
  where
    each_both : (c : Clause) → Each P c → Each Q c → Each (λ a. P a × Q a) c
    each_both [] p q = tt
    each_both (a ∷ more) p q = ((p.0, q.0), each_both more p.1 q.1)

module _ (P : Alternative → Type 0) where
  each_at : (c : Clause) (i : ℕ) → i < length c → Each P c → P (get_or c i nowhere)
  each_at [] i l h = absurd (not-suc-le-zero l)
  each_at (a ∷ more) zero l h = h.0
  each_at (a ∷ more) (suc i) l h = each_at more i (le_of_suc-le-suc l) h.1

  -- and so of every alternative of a selection
  pub chosen-each : (cs : List Clause) (p : List ℕ) → Every P cs → Selection cs p → Each P (chosen cs p)
  chosen-each [] p w s = tt
  chosen-each (c ∷ cs) [] w s = absurd s
  chosen-each (c ∷ cs) (i ∷ p) w s = (each_at c i s.0 w.0, chosen-each cs p w.1 s.1)

  each_take : (k : ℕ) (fs : List Alternative) → Each P fs → Each P (take k fs)
  each_take zero fs h = tt
  each_take (suc k) [] h = tt
  each_take (suc k) (a ∷ more) h = (h.0, each_take k more h.1)

  each-drop : (k : ℕ) (fs : List Alternative) → Each P fs → Each P (drop k fs)
  each-drop zero fs h = h
  each-drop (suc k) [] h = tt
  each-drop (suc k) (a ∷ more) h = each-drop k more h.1

  pub parted-every : (from : ℕ) (counts : List ℕ) (fs : List Alternative) → Each P fs → Every P (parted from counts fs)
  unfolding parted
  parted-every from [] fs h = tt
  parted-every from (e ∷ counts) fs h =
      (each_take (e - from) fs h, parted-every e counts (drop (e - from) fs) (each-drop (e - from) fs h))

-- ---- what the tests say of a list, one step at a time
-- a number of an event below n
abbrev pub Event : ℕ → ℤ → Type 0
Event n x = (k : ℕ) × ((x ≡ pos k) × (k < n))

is-event : (n : ℕ) (x : ℤ) → T (is_event n x) → Event n x
is-event n (pos k) t = (k, (refl, ltb→lt k n (and_yes (leb 0 k) (ltb k n) t).1))
is-event n (negsuc k) t = absurd t

are-events : (n : ℕ) (x y : ℤ) → T (are_events n x y) → Event n x × Event n y
are-events n x y t = let each = and_yes (is_event n x) (is_event n y) t in (is-event n x each.0, is-event n y each.1)

-- of the first triple's events, and the rest
pub first-pair : (f : ℤ → ℤ → Bool) (x y c : ℤ) (more : List ℤ) → T (events f (x ∷ (y ∷ (c ∷ more)))) → T (f x y) × T (events f more)
unfolding events
first-pair f x y c more t = and_yes (f x y) (events f more) t

pub first-events : (n : ℕ) (x y c : ℤ) (more : List ℤ) → T (events (are_events n) (x ∷ (y ∷ (c ∷ more)))) → (Event n x × Event n y) × T (events (are_events n) more)
first-events n x y c more t = let two = first-pair (are_events n) x y c more t in (are-events n x y two.0, two.1)

either-below : (j k : ℕ) → (j ≡ k → ⊥) → T (ltb j k || ltb k j)
either-below j k f = go (ltb j k) (ltb-false j k) (ltb k j) (ltb-false k j)
  where
    go : (a : Bool) → (a ≡ false → k ≤ j) → (b : Bool) → (b ≡ false → j ≤ k) → T (a || b)
    go true g b h = tt
    go false g true h = tt
    go false g false h = absurd (f (le_antisymm (h refl) (g refl)))

-- numbers are apart exactly where they are not the same
pub apart-differ : (x y : ℤ) → T (are_apart x y) → x ≡ y → ⊥
apart-differ x y t e =
    ⊎_elim (λ (h : T (lt_z x y)). <ℤ_irrefl {a = y} (lt_z_yes (rw e at h))) (λ (h : T (lt_z y x)). <ℤ_irrefl {a = y} (lt_z_yes (rw e at h))) (or_yes (lt_z x y) (lt_z y x) t)

pub differ-apart : (x y : ℤ) → (x ≡ y → ⊥) → T (are_apart x y)
differ-apart (pos j) (pos k) f = either-below j k (λ e. f (ap pos e))
differ-apart (pos j) (negsuc k) f = tt
differ-apart (negsuc j) (pos k) f = tt
differ-apart (negsuc j) (negsuc k) f = either-below k j (λ e. f (ap negsuc (sym e)))

-- of the first triple's bound, and the rest
pub first-bound : (x y c : ℤ) (more : List ℤ) → T (bounds is_bound (x ∷ (y ∷ (c ∷ more)))) → (nat_abs c ≤ most_bound) × T (bounds is_bound more)
unfolding bounds
first-bound x y c more t =
    let two = and_yes (is_bound c) (bounds is_bound more) t in
    (leb→le (nat_abs c) most_bound two.0, two.1)

-- of the first count, and the rest
pub record Rises (last from e : ℕ) (counts : List ℕ) : Type 0 where
  pub up : from ≤ e
  pub by : e ≤ from + most_in_clause
  pub rest : T (stepped last e counts)

pub first_count : (last from e : ℕ) (counts : List ℕ) → T (stepped last from (e ∷ counts)) → Rises last from e counts
unfolding stepped
first_count last from e counts t =
    let two = and_yes (leb from e && leb e (from + most_in_clause)) (stepped last e counts) t in
    let each = and_yes (leb from e) (leb e (from + most_in_clause)) two.0 in
    record { up = leb→le from e each.0; by = leb→le e (from + most_in_clause) each.1; rest = two.1 }

-- ---- from the tests to the facts
pub alternatives-in : (n j : ℕ) (xs : List ℤ) → T (events (are_events n) xs) → Each (In n) (alternatives j xs)
unfolding alternatives
alternatives-in n j [] t = tt
alternatives-in n j (x ∷ []) t = tt
alternatives-in n j (x ∷ (y ∷ [])) t = tt
alternatives-in n j (x ∷ (y ∷ (c ∷ more))) t =
    let f = first-events n x y c more t in
    ((below-n x f.0.0, below-n y f.0.1), alternatives-in n (suc j) more f.1)
  where
    below-n : (z : ℤ) → Event n z → nat_abs z < n
    below-n z (k, (e, l)) = rw e l

alternatives-apart : (n j : ℕ) (xs : List ℤ) → T (events (are_events n) xs) → T (events are_apart xs) → Each Apart (alternatives j xs)
unfolding alternatives
alternatives-apart n j [] t d = tt
alternatives-apart n j (x ∷ []) t d = tt
alternatives-apart n j (x ∷ (y ∷ [])) t d = tt
alternatives-apart n j (x ∷ (y ∷ (c ∷ more))) t d =
    let f = first-events n x y c more t in
    let p = first-pair are_apart x y c more d in
    (two-events x y f.0.0 f.0.1 p.0, alternatives-apart n (suc j) more f.1 p.1)
  where
    two-events : (u v : ℤ) → Event n u → Event n v → T (are_apart u v) → nat_abs u ≡ nat_abs v → ⊥
    two-events u v (a, (e, l)) (b, (q, h)) = rw (e, q) (λ t same. apart-differ (pos a) (pos b) t (ap pos same))

alternatives-bounded : (j : ℕ) (xs : List ℤ) → T (bounds is_bound xs) → Each Bounded (alternatives j xs)
unfolding alternatives
alternatives-bounded j [] t = tt
alternatives-bounded j (x ∷ []) t = tt
alternatives-bounded j (x ∷ (y ∷ [])) t = tt
alternatives-bounded j (x ∷ (y ∷ (c ∷ more))) t =
    let f = first-bound x y c more t in
    (f.0, alternatives-bounded (suc j) more f.1)

parted-short : (last from : ℕ) (counts : List ℕ) (fs : List Alternative) → T (stepped last from counts) → Short (parted from counts fs)
unfolding parted
parted-short last from [] fs t = tt
parted-short last from (e ∷ counts) fs t =
    let f = first_count last from e counts t in
    (omega (arith, length-take (e - from) fs, f.by), parted-short last e counts (drop (e - from) fs) f.rest)

pub parted-length : (from : ℕ) (counts : List ℕ) (fs : List Alternative) → length (parted from counts fs) ≡ length counts
unfolding parted
parted-length from [] fs = refl
parted-length from (e ∷ counts) fs = ap suc (parted-length e counts (drop (e - from) fs))

-- how many alternatives there are in all
unfoldable pub sizes : List Clause → ℕ
sizes [] = 0
sizes (c ∷ cs) = length c + sizes cs

parted-sizes : (from : ℕ) (counts : List ℕ) (fs : List Alternative) → sizes (parted from counts fs) ≤ length fs
unfolding parted sizes
parted-sizes from [] fs = omega arith
parted-sizes from (e ∷ counts) fs =
    omega (arith, parted-sizes e counts (drop (e - from) fs), length-take (e - from) fs, length-drop (e - from) fs)

pub alternatives-count : (i : ℕ) (ts : List ℤ) → length (alternatives i ts) ≡ length ts / 3
unfolding alternatives
alternatives-count i [] = refl
alternatives-count i (x ∷ []) = omega arith
alternatives-count i (x ∷ (y ∷ [])) = omega arith
alternatives-count i (x ∷ (y ∷ (c ∷ more))) = omega (arith, alternatives-count (suc i) more)

-- ---- the tests that an accepted problem passes
pub record Passes (l : Lent) : Type 0 where
  pub some : 1 ≤ l.n
  pub most : l.n ≤ most_events
  pub few : length l.counts ≤ most_clauses
  pub whole : length l.triples % 3 ≡ 0
  pub all : length l.triples ≤ 3 * most_alternatives
  pub steps : T (stepped (length l.triples / 3) 0 l.counts)
  pub apart : T (events are_apart l.triples)
  pub events : T (events (are_events l.n) l.triples)
  pub bounds : T (bounds is_bound l.triples)

pub passes : (l : Lent) → problem_refusal l ≡ 0 → Passes l
unfolding problem_tests
passes l e =
    let p = tests-passed l e in
    let L : ℕ = length l.triples in
    let sizes = and_yes (leb 1 l.n) (leb l.n most_events) p.0 in
    let threes = and_yes (eqb (L % 3) 0) (leb L (3 * most_alternatives)) p.1.1.0 in
    record {
      some = leb→le 1 l.n sizes.0;
      most = leb→le l.n most_events sizes.1;
      few = leb→le (length l.counts) most_clauses p.1.0;
      whole = eqb→eq (L % 3) 0 threes.0;
      all = leb→le L (3 * most_alternatives) threes.1;
      steps = p.1.1.1.0;
      apart = p.1.1.1.1.1.0;
      events = p.1.1.1.1.0;
      bounds = p.1.1.1.1.1.1.0;
    }

pub record Accepted (l : Lent) : Type 0 where
  pub taken : problem_refusal l ≡ 0
  pub some : 1 ≤ l.n
  pub most : l.n ≤ most_events
  pub within : Every (In l.n) (clauses_of l)
  pub apart : Every Apart (clauses_of l)
  pub bounded : Every Bounded (clauses_of l)
  pub short : Short (clauses_of l)
  pub few : length (clauses_of l) ≤ most_clauses
  pub all : sizes (clauses_of l) ≤ most_alternatives

pub accepted : (l : Lent) → problem_refusal l ≡ 0 → Accepted l
unfolding clauses_of
accepted l e =
    let p = passes l e in
    let given : List Alternative = alternatives 0 l.triples in
    record {
      taken = e;
      some = p.some;
      most = p.most;
      within = parted-every (In l.n) 0 l.counts given (alternatives-in l.n 0 l.triples p.events);
      apart = parted-every Apart 0 l.counts given (alternatives-apart l.n 0 l.triples p.events p.apart);
      bounded = parted-every Bounded 0 l.counts given (alternatives-bounded 0 l.triples p.bounds);
      short = parted-short _ 0 l.counts given p.steps;
      few = omega (arith, parted-length 0 l.counts given, p.few);
      all = omega (arith, parted-sizes 0 l.counts given, alternatives-count 0 l.triples, p.all);
    }
