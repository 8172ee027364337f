-- The quick search, whose visits are counted: 01, the section of that name, and the rows of "The list of reasons". Definitions only.
-- `sound` decides whether some timetable satisfies the facts; specs/Decision has the one that the planner uses.
use Rattle.std.specs.Prelude.{Bool, true, false, cond, List, [], ◌∷◌, ◌++◌, map, ℕ, zero, suc, ◌+◌, ◌<◌, T, ltb, length, get_or}
use Rattle.std.proofs.Math.Option
use Rattle.std.proofs.Math.Option.{Option, some, none}
use Rattle.meaning.specs.Limits.{onward_mark, dead_mark}
use Rattle.meaning.specs.Problem.{Alternative, opposite, Clause, Timetable, Satisfies, Sound}
use Rattle.meaning.specs.Plain.{product}

-- ---- standings
-- "a standing is a choice for the first k clauses"
abbrev pub Standing : List Clause → List ℕ → Type 0
Standing cs [] = Unit {0}
Standing [] (i ∷ p) = ⊥
Standing (c ∷ cs) (i ∷ p) = (i < length c) × Standing cs p

-- after the facts fs, those of position i of a clause: "the chosen alternatives, and the opposites of all alternatives before the chosen one in the same clause"
abbrev pub taking : ℕ → Clause → List Alternative → List Alternative
taking i [] fs = fs
taking zero (a ∷ more) fs = a ∷ fs
taking (suc i) (a ∷ more) fs = taking i more (opposite a ∷ fs)

-- the facts of a standing, after the facts fs
abbrev pub facts : List Clause → List ℕ → List Alternative → List Alternative
facts [] p fs = fs
facts (c ∷ cs) [] fs = fs
facts (c ∷ cs) (i ∷ p) fs = facts cs p (taking i c fs)

-- the clauses past a standing
unfoldable pub past : List Clause → List ℕ → List Clause
past [] p = []
past (c ∷ cs) [] = c ∷ cs
past (c ∷ cs) (i ∷ p) = past cs p

-- the standing after p and all under it
unfoldable pub sideways : Bool → ℕ → Option (List ℕ) → Option (List ℕ)
sideways b i (some q) = some (i ∷ q)
sideways true i none = some (suc i ∷ [])
sideways false i none = none

unfoldable pub next : List Clause → List ℕ → Option (List ℕ)
next [] p = none
next (c ∷ cs) [] = none
next (c ∷ cs) (i ∷ p) = sideways (ltb (suc i) (length c)) i (next cs p)

-- ---- what the search gives
-- a row of reasons: a mark by its first byte, or a cycle over the facts listed
pub data Row : Type 0 where
  mark : ℕ → Row
  cycle : List Alternative → Row

-- what comes of a standing, given some visits: a plan's positions, the selections closed before it, and the visits left;
-- or all selections under it closed, with the rows and the visits left;
-- or the selections closed and the rows before the standing that could not be visited, and its positions
pub data Outcome : Type 0 where
  found : List ℕ → ℕ → ℕ → Outcome
  closed : ℕ → List Row → ℕ → Outcome
  stopped : ℕ → List Row → List ℕ → Outcome

-- "reaching a sound standing is one visit"; "an unsound one is closed without a visit", and gives one cycle row
unfoldable pub enter : Bool → List Clause → List Alternative → ℕ → (ℕ → Outcome) → Outcome
enter false cs fs v go = closed (product cs) (cycle fs ∷ []) v
enter true cs fs zero go = stopped 0 [] []
enter true cs fs (suc w) go = go w

-- "if it is dead, it is closed": a mark row and one cycle row per alternative of the dead clause
unfoldable pub look : Option ℕ → ℕ → List Clause → List Alternative → ℕ → Outcome → Outcome
look (some d) k cs fs w next = closed (product cs) (mark (dead_mark + (k + d)) ∷ map (λ a. cycle (a ∷ fs)) (get_or cs d [])) w
look none k cs fs w next = next

-- an outcome after n selections closed and the rows r
unfoldable pub later : ℕ → List Row → Outcome → Outcome
later n r (found p b w) = found p (n + b) w
later n r (closed m s w) = closed (n + m) (r ++ s) w
later n r (stopped b s p) = stopped (n + b) (r ++ s) p

-- the standing of position i, then those after it
unfoldable pub and_then : ℕ → Outcome → (ℕ → Outcome) → Outcome
and_then i (found p b w) rest = found (i ∷ p) b w
and_then i (closed n r w) rest = later n r (rest w)
and_then i (stopped b r p) rest = stopped b r (i ∷ p)

-- "the alternatives of the next clause are taken in order", from position i on
unfoldable pub branch : (List Alternative → ℕ → Outcome) → ℕ → Clause → List Alternative → ℕ → Outcome
branch go i [] fs v = closed 0 [] v
branch go i (a ∷ more) fs v = and_then i (go (a ∷ fs) v) (λ w. branch go (suc i) more (opposite a ∷ fs) w)

-- the positions from i + j on, the first of them carried on by `re`
unfoldable pub again : (List Alternative → ℕ → Outcome) → (List Alternative → ℕ → Outcome) → ℕ → ℕ → Clause → List Alternative → ℕ → Outcome
again re go i j [] fs v = closed 0 [] v
again re go i zero (a ∷ more) fs v = and_then i (re (a ∷ fs) v) (λ w. branch go (suc i) more (opposite a ∷ fs) w)
again re go i (suc j) (a ∷ more) fs v = again re go (suc i) j more (opposite a ∷ fs) v

-- ---- the search
module _ (sound : List Alternative → Bool) where
  -- a clause is dead: it "has no alternative that has a timetable together with the facts"
  unfoldable pub dead : List Alternative → Clause → Bool
  dead fs [] = true
  dead fs (a ∷ more) = let r = dead fs more in cond (sound (a ∷ fs)) false r

  -- the lowest dead one of the later clauses, "any past the first k, the next one included"
  unfoldable pub first_dead : List Alternative → List Clause → Option ℕ
  first_dead fs [] = none
  first_dead fs (c ∷ cs) = let r = Option.map suc (first_dead fs cs) in cond (dead fs c) (some 0) r

  -- the standing with k clauses chosen and the facts fs, the clauses cs to come and v visits left
  unfoldable pub search : List Clause → ℕ → List Alternative → ℕ → Outcome
  search [] k fs v = enter (sound fs) [] fs v (λ w. found [] 0 w)
  search (c ∷ cs) k fs v =
      enter (sound fs) (c ∷ cs) fs v
      (λ w.
      let next = later 0 (mark onward_mark ∷ []) (branch (λ f u. search cs (suc k) f u) 0 c fs w) in
      look (first_dead fs (c ∷ cs)) k (c ∷ cs) fs w next)

  -- the search carried on from a place: the standing there and all after it
  unfoldable pub resume : List Clause → ℕ → List ℕ → List Alternative → ℕ → Outcome
  resume [] k p fs v = search [] k fs v
  resume (c ∷ cs) k [] fs v = search (c ∷ cs) k fs v
  resume (c ∷ cs) k (j ∷ p) fs v = again (λ f u. resume cs (suc k) p f u) (λ f u. search cs (suc k) f u) 0 j c fs v

-- `sound` says of all facts whether some timetable satisfies them
pub record Decides (sound : List Alternative → Bool) : Type 0 where
  pub right : (fs : List Alternative) → T (sound fs) → Sound fs
  pub whole : (fs : List Alternative) (t : Timetable) → Satisfies t fs → T (sound fs)
