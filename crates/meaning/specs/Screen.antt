-- The input as it is lent, its refusals, and what the screen and every lent element hold afterwards: 01, "What the table is given" and "What the screen may say",
-- as A6 amends it.
-- Definitions only.
use Rattle.std.specs.Prelude.{◌≡◌, Bool, true, false, cond, ◌&&◌, ◌||◌, List, [], ◌∷◌, ◌++◌, ℕ, zero, suc, ◌+◌, ◌-◌, ◌*◌, ◌/◌, ◌%◌, leb, eqb, ℤ, pos, nat_abs, length, take, drop, replicate}
use Rattle.std.specs.Int.Signed.{le_z, lt_z}
use Rattle.meaning.specs.declared.Answer.{Answer}
use Rattle.meaning.specs.declared.Answer.TheVariants.{Plan, None, Unlisted, Stopped, Refused}
use Rattle.meaning.specs.Limits.{most_events, most_clauses, most_in_clause, most_alternatives, most_bound, most_allowance, row_bytes, blank_byte, no_time}
use Rattle.meaning.specs.Problem.{Alternative, Clause}
use Rattle.meaning.specs.Plain.{chosen}
use Rattle.meaning.specs.Decision.{sound, latest_of}
use Rattle.meaning.specs.Search.{Row, Outcome, found, closed, stopped, search}
use Rattle.meaning.specs.Listing.{rows_in}

-- ---- the input
-- a problem as it is lent: "alternatives come as one list of triples, numbered from 0; a second list gives, per clause, how many alternatives lie in it and all before it"
pub record Lent : Type 0 where
  pub n : ℕ
  pub triples : List ℤ
  pub counts : List ℕ

-- the alternatives, numbered from j
unfoldable pub alternatives : ℕ → List ℤ → List Alternative
alternatives j [] = []
alternatives j (x ∷ []) = []
alternatives j (x ∷ (y ∷ [])) = []
alternatives j (x ∷ (y ∷ (c ∷ more))) = record { no = j; x = nat_abs x; y = nat_abs y; c = c } ∷ alternatives (suc j) more

-- parted by the counts, `from` of them parted already
unfoldable pub parted : ℕ → List ℕ → List Alternative → List Clause
parted from [] more = []
parted from (e ∷ counts) more = take (e - from) more ∷ parted e counts (drop (e - from) more)

unfoldable pub clauses_of : Lent → List Clause
clauses_of l = parted 0 l.counts (alternatives 0 l.triples)

-- what `plan` is lent: the problem, the allowance, and how long the timetable, the picks and the reasons are
pub record Input : Type 0 where
  pub lent : Lent
  pub allowance : ℕ
  pub times : ℕ
  pub picks : ℕ
  pub room : ℕ

-- ---- the refusals
-- "the clause counts, begun from 0, fall, rise by more than 4, or don't end at the number of triples"
unfoldable pub stepped : ℕ → ℕ → List ℕ → Bool
stepped last from [] = eqb from last
stepped last from (e ∷ counts) = leb from e && leb e (from + most_in_clause) && stepped last e counts

-- the two event numbers of each triple pass
unfoldable pub events : (ℤ → ℤ → Bool) → List ℤ → Bool
events f [] = true
events f (x ∷ []) = true
events f (x ∷ (y ∷ [])) = true
events f (x ∷ (y ∷ (c ∷ more))) = f x y && events f more

-- the bound of each triple passes
unfoldable pub bounds : (ℤ → Bool) → List ℤ → Bool
bounds f [] = true
bounds f (x ∷ []) = true
bounds f (x ∷ (y ∷ [])) = true
bounds f (x ∷ (y ∷ (c ∷ more))) = f c && bounds f more

abbrev pub is_event : ℕ → ℤ → Bool
is_event n x = le_z (pos 0) x && lt_z x (pos n)

abbrev pub are_events : ℕ → ℤ → ℤ → Bool
are_events n x y = is_event n x && is_event n y

-- x is not y: one lies below the other
abbrev pub are_apart : ℤ → ℤ → Bool
are_apart x y = lt_z x y || lt_z y x

abbrev pub is_bound : ℤ → Bool
is_bound c = leb (nat_abs c) most_bound

-- "events n": at least 1, and no more than there may be
abbrev pub is_size : ℕ → Bool
is_size n = leb 1 n && leb n most_events

-- a test, and beside it the number that refuses where it fails
abbrev pub Test : Type 0
Test = ℕ × Bool

-- what is asked of a problem everywhere, in the order in which it is looked for: 01's refusals 1 to 6, and A6's 12 "after 5 and before 6"
unfoldable pub problem_tests : Lent → List Test
problem_tests l =
    (1, is_size l.n)
    ∷ (2, leb (length l.counts) most_clauses)
    ∷ (3, eqb (length l.triples % 3) 0 && leb (length l.triples) (3 * most_alternatives))
    ∷ (4, stepped (length l.triples / 3) 0 l.counts)
    ∷ (5, events (are_events l.n) l.triples)
    ∷ (12, events are_apart l.triples)
    ∷ (6, bounds is_bound l.triples)
    ∷ []

-- what `plan` asks besides
unfoldable pub plan_tests : Input → List Test
plan_tests i =
    (7, leb i.allowance most_allowance)
    ∷ (8, leb i.lent.n i.times && leb (length i.lent.counts) i.picks)
    ∷ []

-- how a refusal's number is found, in every operation that is lent a problem: it is the one beside the first test that fails, or 0 where none does
unfoldable pub first_failed : List Test → ℕ
first_failed [] = 0
first_failed (t ∷ more) = let r = first_failed more in cond t.1 r t.0

-- of a problem: 1 2 3 4 5 12 6, or 0
unfoldable pub problem_refusal : Lent → ℕ
problem_refusal l = first_failed (problem_tests l)

-- of a call of `plan`: 1 2 3 4 5 12 6 7 8, or 0
unfoldable pub refusal : Input → ℕ
refusal i = first_failed (problem_tests i.lent ++ plan_tests i)

-- ---- the screen
-- the answer, and the timetable, the picks and the reasons as they are left
pub record Screen : Type 0 where
  pub answer : Answer
  pub times : List ℤ
  pub picks : List ℕ
  pub reasons : List ℕ

-- no plan and no list: "all 1; all 255; all 255"
unfoldable pub cleared : Input → Answer → Screen
cleared i a = record { answer = a; times = replicate i.times no_time; picks = replicate i.picks blank_byte; reasons = replicate i.room blank_byte }

-- none, by whether the rows fit
unfoldable pub listed : Input → ℕ → ℕ → List Row → Bool → Screen
listed i v b r true = record { answer = None v b (length r); times = replicate i.times no_time; picks = replicate i.picks blank_byte; reasons = rows_in row_bytes i.room r }
listed i v b r false = cleared i (Unlisted v b (length r))

-- the table of "What the screen may say", by how the search ends
unfoldable pub shown : Input → Outcome → Screen
shown i (found p b left) =
    record {
      answer = Plan (i.allowance - left) b;
      times = latest_of i.lent.n (chosen (clauses_of i.lent) p) ++ replicate (i.times - i.lent.n) no_time;
      picks = p ++ replicate (i.picks - length p) blank_byte;
      reasons = replicate i.room blank_byte;
    }
shown i (closed b r left) = listed i (i.allowance - left) b r (leb (length r * row_bytes) i.room)
shown i (stopped b r p) = cleared i (Stopped i.allowance b)

-- how the search of an input ends
abbrev pub outcome : Input → Outcome
outcome i = search sound (clauses_of i.lent) 0 [] i.allowance

unfoldable pub decided : Input → ℕ → Screen
decided i zero = shown i (outcome i)
decided i (suc r) = cleared i (Refused (suc r))

unfoldable pub screen : Input → Screen
screen i = decided i (refusal i)

-- what a call leaves: what the screen says, in every element
pub record Shows (i : Input) (answer : Answer) (times : List ℤ) (picks reasons : List ℕ) : Type 0 where
  pub answers : answer ≡ (screen i).answer
  pub times-are : times ≡ (screen i).times
  pub picks-are : picks ≡ (screen i).picks
  pub reasons-are : reasons ≡ (screen i).reasons
