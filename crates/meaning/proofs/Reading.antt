-- A reading of a standing means that no timetable of its facts satisfies a selection; and the rows of a search that ends without a plan are one. Assumes nothing.
use mathlib.Core.Path.{◌≡◌, refl, ap, ◌∙◌}
use mathlib.Core.Bool.{Bool, true, false, cond, ◌&&◌}
use mathlib.Core.Option
use mathlib.Core.Option.{Option, some, none}
use mathlib.Core.List.{List, [], ◌∷◌, ◌++◌, map}
use Prim.Native.Nat.{ℕ, zero, suc, ◌+◌, ◌-◌, ◌<◌, ◌≤◌}
use native.Mathlib.Nat.{le_of_suc-le-suc, not-suc-le-zero}
use native.Mathlib.Omega.{arith}
use lib.Dec.{T, leb, ltb, eqb, le→leb, ltb→lt, lt→ltb, eqb→eq, eqb_refl}
use lib.ListN.{length, get_or, replicate}
use mir.Facts.{yes_and, and_yes}
use Rattle.laws.proofs.Tests.{is_true, is_false, never}
use Rattle.meaning.specs.Limits.{most_clauses, onward_mark}
use Rattle.meaning.specs.Problem.{Alternative, opposite, Clause, Timetable, satisfied, Satisfies}
use Rattle.meaning.specs.Plain.{Selection, nowhere, chosen, Holds}
use Rattle.meaning.specs.Search.{Row, mark, cycle, Outcome, found, closed, stopped, enter, look, later, and_then, branch, dead, first_dead, search}
use Rattle.meaning.specs.Reasons.{cycle_over, same, Kind, ring, onward, bad, dead_at, mark_row, kind, cycle_rows, front, reading, and_read, each_read, read}
use Rattle.meaning.proofs.First.{Closed, closed-both, closed-empty}
use Rattle.meaning.proofs.Cycle.{cycle-none}

abbrev Rows : Type 0
Rows = List (List ℕ)

cond-some : (b : Bool) (o : Option Rows) (x : Rows) → cond b o none ≡ some x → T b × (o ≡ some x)
cond-some true o x e = (tt, e)
cond-some false o x e = absurd (never (cc))

-- ---- a yes means none
cycle_rows-none : (W : ℕ) (t : Timetable) (fs : List Alternative) (c : Clause) (rows rest : Rows) → cycle_rows W fs c rows ≡ some rest → (i : ℕ) → i < length c → Satisfies t fs → T (satisfied t (get_or c i nowhere)) → ⊥
unfolding cycle_rows
cycle_rows-none W t fs [] rows rest e i l h g = not-suc-le-zero l
cycle_rows-none W t fs (a ∷ more) [] rest e i l h g = never (cc)
cycle_rows-none W t fs (a ∷ more) (row ∷ rows) rest e zero l h g =
    cycle-none t (a ∷ fs) row (cond-some (cycle_over (a ∷ fs) row) (cycle_rows W fs more rows) rest e).0 (g, h)
cycle_rows-none W t fs (a ∷ more) (row ∷ rows) rest e (suc i) l h g =
    cycle_rows-none W t fs more rows rest (cond-some (cycle_over (a ∷ fs) row) (cycle_rows W fs more rows) rest e).1 i (le_of_suc-le-suc l) h g

chosen_at : (cs : List Clause) (q : List ℕ) → Selection cs q → (d : ℕ) → d < length cs → (t : Timetable) → Satisfies t (chosen cs q) → (i : ℕ) × (i < length (get_or cs d [])) × T (satisfied t (get_or (get_or cs d []) i nowhere))
chosen_at [] q s d l t h = absurd (not-suc-le-zero l)
chosen_at (c ∷ cs) [] s d l t h = absurd s
chosen_at (c ∷ cs) (i ∷ q) s zero l t h = (i, s.0, h.0)
chosen_at (c ∷ cs) (i ∷ q) s (suc d) l t h = chosen_at cs q s.1 d (le_of_suc-le-suc l) t h.1

front-closed : (W : ℕ) (kd : Kind) (cs : List Clause) (k : ℕ) (fs : List Alternative) (row : List ℕ) (rows : Rows) (down : Rows → Option Rows) (rest : Rows) → (down rows ≡ some rest → Closed cs fs) → front W kd cs k fs row rows down ≡ some rest → Closed cs fs
unfolding front
front-closed W ring cs k fs row rows down rest h e q s t y g = cycle-none t fs row (cond-some (cycle_over fs row) (some rows) rest e).0 y
front-closed W onward cs k fs row rows down rest h e q s t y g = h e q s t y g
front-closed W bad cs k fs row rows down rest h e q s t y g = never (cc)
front-closed W (dead_at d) cs k fs row rows down rest h e q s t y g =
    let m = cond-some (leb k d && ltb (d - k) (length cs)) (cycle_rows W fs (get_or cs (d - k) []) rows) rest e in
    let (i, l, o) = chosen_at cs q s (d - k) (ltb→lt (d - k) (length cs) (and_yes (leb k d) (ltb (d - k) (length cs)) m.0).1) t g in
    cycle_rows-none W t fs (get_or cs (d - k) []) rows rest m.1 i l y o

and-some : (W : ℕ) (o : Option Rows) (f : Rows → Option Rows) (rest : Rows) → and_read W o f ≡ some rest → (mid : Rows) × (o ≡ some mid) × (f mid ≡ some rest)
unfolding and_read
and-some W none f rest e = absurd (never (cc))
and-some W (some mid) f rest e = (mid, refl, e)

each-closed : (W : ℕ) (go : List Alternative → Rows → Option Rows) (cs : List Clause) → ((fs : List Alternative) (rows rest : Rows) → go fs rows ≡ some rest → Closed cs fs) → (c : Clause) (fs : List Alternative) (rows rest : Rows) → each_read W go c fs rows ≡ some rest → Closed (c ∷ cs) fs
unfolding each_read
each-closed W go cs h [] fs rows rest e = closed-empty cs fs
each-closed W go cs h (a ∷ more) fs rows rest e =
    let m = and-some W (go (a ∷ fs) rows) (λ r. each_read W go more (opposite a ∷ fs) r) rest e in
    closed-both a more cs fs (h (a ∷ fs) rows m.0 m.1) (each-closed W go cs h more (opposite a ∷ fs) m.0 rest m.2)

pub read-closed : (W : ℕ) (cs : List Clause) (k : ℕ) (fs : List Alternative) (rows rest : Rows) → read W cs k fs rows ≡ some rest → Closed cs fs
unfolding read reading
read-closed W [] k fs [] rest e = absurd (never (cc))
read-closed W [] k fs (row ∷ rows) rest e =
    front-closed W (kind W row) [] k fs row rows (λ rs. none) rest (λ d. absurd (never (cc))) e
read-closed W (c ∷ cs) k fs [] rest e = absurd (never (cc))
read-closed W (c ∷ cs) k fs (row ∷ rows) rest e =
    front-closed W (kind W row) (c ∷ cs) k fs row rows (λ rs. each_read W (λ f r. read W cs (suc k) f r) c fs rs) rest
    (λ d. each-closed W (λ f r. read W cs (suc k) f r) cs (λ f r x y. read-closed W cs (suc k) f r x y) c fs rows rest d)
    e

-- a yes of the reader: no selection holds
pub read_none : (W : ℕ) (cs : List Clause) (rows rest : Rows) → read W cs 0 [] rows ≡ some rest → (q : List ℕ) → Selection cs q → ¬ Holds cs q
read_none W cs rows rest e q s h = read-closed W cs 0 [] rows rest e q s h.0 tt h.1

-- ---- the rows of a search are a reading
same_refl : (xs : List ℕ) → same xs xs ≡ true
unfolding same
same_refl [] = refl
same_refl (x ∷ xs) = ap (λ (b : Bool). b && same xs xs) (is_true (eqb x x) (eqb_refl x)) ∙ same_refl xs

kind-open : (W : ℕ) → kind W (mark_row W onward_mark) ≡ onward
unfolding kind mark_row
kind-open W = ap (λ (b : Bool). cond b onward (cond (leb 200 240 && same (240 ∷ replicate (W - 1) 255) (240 ∷ replicate (W - 1) 255)) (dead_at 40) bad)) (same_refl (240 ∷ replicate (W - 1) 255))

kind-dead : (W m : ℕ) → m < 40 → kind W (mark_row W (200 + m)) ≡ dead_at m
unfolding kind mark_row same
kind-dead W m l =
    ap (λ (b : Bool). cond b ring (cond (eqb (200 + m) 240 && same R R) onward (cond (leb 200 (200 + m) && (eqb (200 + m) (200 + m) && same R R)) (dead_at (200 + m - 200)) bad)))
    (is_false (ltb (200 + m) 128) (λ t. let h : 200 + m < 128 = ltb→lt (200 + m) 128 t in omega arith))
    ∙ ap (λ (b : Bool). cond (b && same R R) onward (cond (leb 200 (200 + m) && (eqb (200 + m) (200 + m) && same R R)) (dead_at (200 + m - 200)) bad))
    (is_false (eqb (200 + m) 240) (λ t. let h : 200 + m ≡ 240 = eqb→eq (200 + m) 240 t in omega arith))
    ∙ ap (λ (b : Bool). cond (b && (eqb (200 + m) (200 + m) && same R R)) (dead_at (200 + m - 200)) bad)
    (is_true (leb 200 (200 + m)) (le→leb 200 (200 + m) (omega arith)))
    ∙ ap (λ (b : Bool). cond b (dead_at (200 + m - 200)) bad) (same_refl ((200 + m) ∷ R))
    ∙ ap dead_at (omega arith)
  where
    R : List ℕ
    R = replicate (W - 1) 255

-- a row of bytes that is read as a row of the search: its mark, or any cycle over its facts
abbrev pub ReadAs : ℕ → Row → List ℕ → Type 0
ReadAs W (mark b) row = row ≡ mark_row W b
ReadAs W (cycle fs) row = (kind W row ≡ ring) × T (cycle_over fs row)

-- the rows begin with some that are read as r, and go on with rest
abbrev pub Front : ℕ → List Row → Rows → Rows → Type 0
Front W [] rows rest = rows ≡ rest
Front W (x ∷ r) rows rest = (row : List ℕ) × (tail : Rows) × (rows ≡ row ∷ tail) × ReadAs W x row × Front W r tail rest

front-append : (W : ℕ) (r s : List Row) (rows rest : Rows) → Front W (r ++ s) rows rest → (mid : Rows) × Front W r rows mid × Front W s mid rest
front-append W [] s rows rest h = (rows, refl, h)
front-append W (x ∷ r) s rows rest (row, tail, e, w, h) =
    let (mid, f, g) = front-append W r s tail rest h in
    (mid, (row, tail, e, w, f), g)

module _ (W : ℕ) where
  unfoldable pub down : List Clause → ℕ → List Alternative → Rows → Option Rows
  down [] k fs rs = none
  down (c ∷ cs) k fs rs = each_read W (λ f r. read W cs (suc k) f r) c fs rs

  read_is : (cs : List Clause) (k : ℕ) (fs : List Alternative) (row : List ℕ) (rows : Rows) → read W cs k fs (row ∷ rows) ≡ front W (kind W row) cs k fs row rows (down cs k fs)
  unfolding read reading down
  read_is [] k fs row rows = refl
  read_is (c ∷ cs) k fs row rows = refl

  pub read-kind : (cs : List Clause) (k : ℕ) (fs : List Alternative) (row : List ℕ) (rows : Rows) (kd : Kind) → kind W row ≡ kd → read W cs k fs (row ∷ rows) ≡ front W kd cs k fs row rows (down cs k fs)
  read-kind cs k fs row rows kd e = read_is cs k fs row rows ∙ ap (λ (x : Kind). front W x cs k fs row rows (down cs k fs)) e

  cycles-read : (fs : List Alternative) (c : Clause) (rows rest : Rows) → Front W (map (λ a. cycle (a ∷ fs)) c) rows rest → cycle_rows W fs c rows ≡ some rest
  unfolding cycle_rows
  cycles-read fs [] rows rest h = ap some h
  cycles-read fs (a ∷ more) rows rest (row, tail, e, w, h) =
      ap (cycle_rows W fs (a ∷ more)) e
      ∙ ap (λ (b : Bool). cond b (cycle_rows W fs more tail) none) (is_true (cycle_over (a ∷ fs) row) w.1)
      ∙ cycles-read fs more tail rest h

  abbrev pub Readable : List Clause → ℕ → List Alternative → Outcome → Type 0
  Readable cs k fs (found p b w) = Unit {0}
  Readable cs k fs (closed n r w) = (rows rest : Rows) → Front W r rows rest → read W cs k fs rows ≡ some rest
  Readable cs k fs (stopped b r p) = Unit {0}

  abbrev EachReadable : (List Alternative → Rows → Option Rows) → Clause → List Alternative → Outcome → Type 0
  EachReadable go c fs (found p b w) = Unit {0}
  EachReadable go c fs (closed n r w) = (rows rest : Rows) → Front W r rows rest → each_read W go c fs rows ≡ some rest
  EachReadable go c fs (stopped b r p) = Unit {0}

  later-each : (go : List Alternative → Rows → Option Rows) (a : Alternative) (more : Clause) (fs : List Alternative) (n : ℕ) (r : List Row) (o : Outcome) → ((rows rest : Rows) → Front W r rows rest → go (a ∷ fs) rows ≡ some rest) → EachReadable go more (opposite a ∷ fs) o → EachReadable go (a ∷ more) fs (later n r o)
  unfolding later each_read and_read
  later-each go a more fs n r (found p b w) h k = tt
  later-each go a more fs n r (closed m s w) h k =
      λ rows rest f.
      let (mid, x, y) = front-append W r s rows rest f in
      ap (λ o. and_read W o (λ z. each_read W go more (opposite a ∷ fs) z)) (h rows mid x) ∙ k mid rest y
  later-each go a more fs n r (stopped b s p) h k = tt

  then-each : (go : List Alternative → Rows → Option Rows) (cs : List Clause) (k i : ℕ) (a : Alternative) (more : Clause) (fs : List Alternative) (o : Outcome) (rest : ℕ → Outcome) → ((f : List Alternative) (r : Rows) → go f r ≡ read W cs k f r) → Readable cs k (a ∷ fs) o → ((w : ℕ) → EachReadable go more (opposite a ∷ fs) (rest w)) → EachReadable go (a ∷ more) fs (and_then i o rest)
  unfolding and_then
  then-each go cs k i a more fs (found p b w) rest q h g = tt
  then-each go cs k i a more fs (closed n r w) rest q h g =
      later-each go a more fs n r (rest w) (λ rows end f. q (a ∷ fs) rows ∙ h rows end f) (g w)
  then-each go cs k i a more fs (stopped b r p) rest q h g = tt

  branch-each : (go : List Alternative → ℕ → Outcome) (cs : List Clause) (k : ℕ) → ((fs : List Alternative) (v : ℕ) → Readable cs k fs (go fs v)) → (i : ℕ) (c : Clause) (fs : List Alternative) (v : ℕ) → EachReadable (λ f r. read W cs k f r) c fs (branch go i c fs v)
  unfolding branch
  branch-each go cs k h i [] fs v = λ rows rest f. unfold each_read in ap some f
  branch-each go cs k h i (a ∷ more) fs v =
      then-each (λ f r. read W cs k f r) cs k i a more fs (go (a ∷ fs) v) _ (λ f r. refl) (h (a ∷ fs) v)
      (λ w. branch-each go cs k h (suc i) more (opposite a ∷ fs) w)

  open-each : (c : Clause) (cs : List Clause) (k : ℕ) (fs : List Alternative) (o : Outcome) → EachReadable (λ f r. read W cs (suc k) f r) c fs o → Readable (c ∷ cs) k fs (later 0 (mark onward_mark ∷ []) o)
  unfolding later front down
  open-each c cs k fs (found p b w) h = tt
  open-each c cs k fs (closed n r w) h =
      λ rows rest (row, tail, e, w, f). ap (read W (c ∷ cs) k fs) e ∙ read-kind (c ∷ cs) k fs row tail onward (ap (kind W) w ∙ kind-open W) ∙ h tail rest f
  open-each c cs k fs (stopped b r p) h = tt

  dead-lt : (sound : List Alternative → Bool) (fs : List Alternative) (cs : List Clause) (d : ℕ) → first_dead sound fs cs ≡ some d → d < length cs
  unfolding first_dead
  dead-lt sound fs [] d e = absurd (never (cc))
  dead-lt sound fs (c ∷ cs) d e = go (dead sound fs c) (first_dead sound fs cs) refl e (λ m x. dead-lt sound fs cs m x)
    where
      go : (b : Bool) (o : Option ℕ) → first_dead sound fs cs ≡ o → cond b (some 0) (Option.map suc o) ≡ some d → ((m : ℕ) → first_dead sound fs cs ≡ some m → m < length cs) → d < suc (length cs)
      go true o z x k = let p : 0 ≡ d = cc in omega arith
      go false none z x k = absurd (never (cc))
      go false (some m) z x k = let p : suc m ≡ d = cc in omega (arith, k m z)

  look-readable : (sound : List Alternative → Bool) (o : Option ℕ) (k : ℕ) (cs : List Clause) (fs : List Alternative) (w : ℕ) (next : Outcome) → first_dead sound fs cs ≡ o → k + length cs ≤ most_clauses → Readable cs k fs next → Readable cs k fs (look o k cs fs w next)
  unfolding look front
  look-readable sound (some d) k cs fs w next e l h =
      λ rows rest (row, tail, q, w, f).
      let m : d < length cs = dead-lt sound fs cs d e in
      let g : k + d - k ≡ d = omega arith in
      ap (read W cs k fs) q
      ∙ read-kind cs k fs row tail (dead_at (k + d)) (ap (kind W) w ∙ kind-dead W (k + d) (omega arith))
      ∙ (ap (λ (b : Bool). cond b (cycle_rows W fs (get_or cs (k + d - k) []) tail) none) (is_true (leb k (k + d) && ltb (k + d - k) (length cs)) (yes_and (leb k (k + d)) (ltb (k + d - k) (length cs)) (le→leb k (k + d) (omega arith)) (lt→ltb (k + d - k) (length cs) (omega arith))))
      ∙ ap (λ (i : ℕ). cycle_rows W fs (get_or cs i []) tail) g
      ∙ cycles-read fs (get_or cs d []) tail rest f)
  look-readable sound none k cs fs w next e l h = h

  enter-readable : (b : Bool) (k : ℕ) (cs : List Clause) (fs : List Alternative) (v : ℕ) (go : ℕ → Outcome) → ((w : ℕ) → Readable cs k fs (go w)) → Readable cs k fs (enter b cs fs v go)
  unfolding enter front
  enter-readable false k cs fs v go h =
      λ rows rest (row, tail, e, w, f).
      ap (read W cs k fs) e ∙ read-kind cs k fs row tail ring w.0 ∙ (ap (λ (b : Bool). cond b (some tail) none) (is_true (cycle_over fs row) w.1) ∙ ap some f)
  enter-readable true k cs fs zero go h = tt
  enter-readable true k cs fs (suc w) go h = h w

  -- the rows of a search without a plan are a reading, whichever cycles they name
  pub search-readable : (sound : List Alternative → Bool) (cs : List Clause) (k : ℕ) (fs : List Alternative) (v : ℕ) → k + length cs ≤ most_clauses → Readable cs k fs (search sound cs k fs v)
  unfolding search
  search-readable sound [] k fs v l = enter-readable (sound fs) k [] fs v (λ w. found [] 0 w) (λ w. tt)
  search-readable sound (c ∷ cs) k fs v l =
      enter-readable (sound fs) k (c ∷ cs) fs v _
      (λ w.
      look-readable sound (first_dead sound fs (c ∷ cs)) k (c ∷ cs) fs w _ refl l
      (open-each c cs k fs _
      (branch-each (λ f u. search sound cs (suc k) f u) cs (suc k) (λ f u. search-readable sound cs (suc k) f u (omega arith)) 0 c fs w)))
