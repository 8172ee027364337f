-- The two readers as witnesses: what a yes means, that no problem has both, and that what a call leaves is read yes. Assumes nothing.
use mathlib.Core.Path.{◌≡◌, refl, sym, ap, ap₂, ◌∙◌, subst}
use mathlib.Core.Bool.{Bool, true, false, ◌||◌}
use mathlib.Core.Logic.{◌⊎◌, inl, inr}
use mathlib.Core.List.{List, [], ◌∷◌}
use Prim.Native.Nat.{ℕ, zero, suc, ◌-◌, ◌<◌, ◌≤◌}
use native.Mathlib.Omega.{arith}
use lib.Dec.{T, le→leb}
use lib.IntN.{ℤ, pos, ◌-ℤ◌}
use lib.Signed.{le_z}
use lib.ListN.{length, replicate, length-append, get_or-append}
use mir.Facts.{yes_and, and_yes}
use Rattle.laws.proofs.Tests.{is_true, never}
use Rattle.meaning.specs.declared.Answer.{Answer}
use Rattle.meaning.specs.declared.Answer.TheVariants.{Plan, None, Stopped, Refused as RefusedCall}
use Rattle.meaning.specs.declared.Verdict.TheVariants.{Yes}
use Rattle.meaning.specs.Limits.{row_bytes, no_time}
use Rattle.meaning.specs.Problem.{Clause, Timetable, satisfied, Some, Keeps}
use Rattle.meaning.specs.Plain.{times_of}
use Rattle.meaning.specs.Decision.{sound}
use Rattle.meaning.specs.Search.{found, closed}
use Rattle.meaning.specs.Reasons.{is_reading}
use Rattle.meaning.specs.Listing.{listing, rows_in}
use Rattle.meaning.specs.Screen.{Lent, Input, clauses_of, problem_refusal, Screen, cleared, listed, shown, screen, Shows}
use Rattle.meaning.specs.Verdicts.{verdict, reasons_verdict, some, keeps, timetable_refusal, timetable_verdict}
use Rattle.meaning.proofs.Settling.{Each, In}
use Rattle.meaning.proofs.Accepted.{Accepted, Every}
use Rattle.meaning.proofs.Refusals.{none-failed, problem-passed}
use Rattle.meaning.proofs.Demands.{kept-holds}
use Rattle.meaning.proofs.Reading.{Readable, search-readable}
use Rattle.meaning.proofs.Listing.{reading-none, listing-reading}
use Rattle.meaning.proofs.Named.{none_rows}
use Rattle.meaning.proofs.Endings.{Ending, refuses, plans, lists, omits, stops, ending, Shown, shows-means}

-- ---- the test of a timetable is the meaning of "keeps"
some_of : (t : Timetable) (c : Clause) → T (some t c) → Some t c
unfolding some
some_of t [] h = absurd h
some_of t (a ∷ more) h = go (satisfied t a) refl h (λ k. some_of t more k)
  where
    go : (b : Bool) → satisfied t a ≡ b → T (b || some t more) → (T (some t more) → Some t more) → T (satisfied t a) ⊎ Some t more
    go true e k rest = inl (subst T (sym e) tt)
    go false e k rest = inr (rest k)

of_some : (t : Timetable) (c : Clause) → Some t c → T (some t c)
unfolding some
of_some t [] h = absurd h
of_some t (a ∷ more) (inl h) = subst (λ (b : Bool). T (b || some t more)) (sym (is_true (satisfied t a) h)) tt
of_some t (a ∷ more) (inr h) = go (satisfied t a) (of_some t more h)
  where
    go : (b : Bool) → T (some t more) → T (b || some t more)
    go true k = tt
    go false k = k

pub keeps-of : (t : Timetable) (cs : List Clause) → T (keeps t cs) → Keeps t cs
unfolding keeps
keeps-of t [] h = tt
keeps-of t (c ∷ cs) h = (some_of t c (and_yes (some t c) (keeps t cs) h).0, keeps-of t cs (and_yes (some t c) (keeps t cs) h).1)

pub of-keeps : (t : Timetable) (cs : List Clause) → Keeps t cs → T (keeps t cs)
unfolding keeps
of-keeps t [] h = tt
of-keeps t (c ∷ cs) h = yes_and (some t c) (keeps t cs) (of_some t c h.0) (of-keeps t cs h.1)

-- ---- what a yes means
yes_both : (r : ℕ) (b : Bool) → verdict r b ≡ Yes → (r ≡ 0) × T b
unfolding verdict
yes_both zero true e = (refl, tt)
yes_both zero false e = absurd (never (cc))
yes_both (suc r) b e = absurd (never (cc))

both_yes : (r : ℕ) (b : Bool) → r ≡ 0 → T b → verdict r b ≡ Yes
unfolding verdict
both_yes r b e t = ap₂ verdict e (is_true b t)

-- a yes of the list's reader: no timetable keeps the problem
pub reasons-yes : (l : Lent) (list : List ℕ) → reasons_verdict l list ≡ Yes → (t : Timetable) → Keeps t (clauses_of l) → ⊥
unfolding reasons_verdict
reasons-yes l list e =
    kept-holds (clauses_of l) (reading-none row_bytes (clauses_of l) list (yes_both (problem_refusal l) (is_reading row_bytes (clauses_of l) list) e).1)

-- a yes of the timetable's reader: this one does
pub timetable-yes : (l : Lent) (times : List ℤ) → timetable_verdict l times ≡ Yes → Keeps (times_of times) (clauses_of l)
unfolding timetable_verdict
timetable-yes l times e = keeps-of (times_of times) (clauses_of l) (yes_both (timetable_refusal l times) (keeps (times_of times) (clauses_of l)) e).1

-- so no problem has both
pub never-two : (l : Lent) (list : List ℕ) (times : List ℤ) → reasons_verdict l list ≡ Yes → timetable_verdict l times ≡ Yes → ⊥
never-two l list times e d = reasons-yes l list e (times_of times) (timetable-yes l times d)

-- ---- what a call leaves is read yes
agree-some : (n : ℕ) (t u : Timetable) → ((e : ℕ) → e < n → t e ≡ u e) → (c : Clause) → Each (In n) c → Some t c → Some u c
unfolding satisfied
agree-some n t u h [] i k = k
agree-some n t u h (a ∷ more) i (inl k) = inl (subst T (ap₂ (λ (x y : ℤ). le_z (x -ℤ y) a.c) (h a.x i.0.0) (h a.y i.0.1)) k)
agree-some n t u h (a ∷ more) i (inr k) = inr (agree-some n t u h more i.1 k)

-- only the times of the n events count
agree_keeps : (n : ℕ) (t u : Timetable) → ((e : ℕ) → e < n → t e ≡ u e) → (cs : List Clause) → Every (In n) cs → Keeps t cs → Keeps u cs
agree_keeps n t u h [] w k = tt
agree_keeps n t u h (c ∷ cs) w k = (agree-some n t u h c w.0 k.0, agree_keeps n t u h cs w.1 k.1)

-- a screen with another answer than the one that was left
module _ (i : Input) (a : Answer) (times : List ℤ) (picks reasons : List ℕ) (s : Shows i a times picks reasons) where
  not_so : {A : Type 0} (x : Screen) → screen i ≡ x → (a ≡ x.answer → ◌≡◌ {A = ℕ} 0 1) → A
  not_so x q f = absurd (never (f (s.answers ∙ ap (λ y. y.answer) q)))

-- every list that a none leaves
pub none_read : (i : Input) (v b k : ℕ) (times : List ℤ) (picks reasons : List ℕ) → Shows i (None v b k) times picks reasons → reasons_verdict i.lent reasons ≡ Yes
unfolding reasons_verdict listed
none_read i v b k times picks reasons s = go (ending i)
  where
    go : Ending i (screen i) → verdict (problem_refusal i.lent) (is_reading row_bytes (clauses_of i.lent) reasons) ≡ Yes
    go (refuses r e q) = not_so i (None v b k) times picks reasons s (cleared i (RefusedCall (suc r))) q (λ d. unfold cleared in cc)
    go (plans p c w a e q) = not_so i (None v b k) times picks reasons s (shown i (found p c w)) q (λ d. unfold shown in cc)
    go (omits c r w a e q) = not_so i (None v b k) times picks reasons s (listed i (i.allowance - w) c r false) q (λ d. unfold listed cleared in cc)
    go (stops c r p a e q) = not_so i (None v b k) times picks reasons s (cleared i (Stopped i.allowance c)) q (λ d. unfold cleared in cc)
    go (lists c r w a e f q) =
        both_yes (problem_refusal i.lent) (is_reading row_bytes (clauses_of i.lent) reasons) a.taken
        (subst (λ (l : List ℕ). T (is_reading row_bytes (clauses_of i.lent) l)) (sym (s.reasons-are ∙ ap (λ (x : Screen). x.reasons) q))
        (unfold rows_in in listing-reading row_bytes (omega arith) (clauses_of i.lent) r (i.room - length (listing row_bytes r)) (none_rows i.lent a i.allowance c r w e) readable))
      where
        readable : Readable row_bytes (clauses_of i.lent) 0 [] (closed c r w)
        readable = subst (Readable row_bytes (clauses_of i.lent) 0 []) e (search-readable row_bytes sound (clauses_of i.lent) 0 [] i.allowance (omega (arith, a.few)))

-- a call that got a plan had an accepted problem
plan-accepted : (i : Input) (v b : ℕ) (times : List ℤ) (picks reasons : List ℕ) → Shows i (Plan v b) times picks reasons → Accepted i.lent
plan-accepted i v b times picks reasons s = go (ending i)
  where
    go : Ending i (screen i) → Accepted i.lent
    go (refuses r e q) = not_so i (Plan v b) times picks reasons s (cleared i (RefusedCall (suc r))) q (λ d. unfold cleared in cc)
    go (plans p c w a e q) = a
    go (lists c r w a e f q) = a
    go (omits c r w a e q) = a
    go (stops c r p a e q) = a

-- every plan's timetable
pub plan-read : (i : Input) (v b : ℕ) (times : List ℤ) (picks reasons : List ℕ) → Shows i (Plan v b) times picks reasons → timetable_verdict i.lent times ≡ Yes
unfolding timetable_verdict timetable_refusal
plan-read i v b times picks reasons s =
    both_yes (timetable_refusal i.lent times) (keeps (times_of times) (clauses_of i.lent))
    (problem-passed i.lent _ a.taken ∙ none-failed _ (le→leb i.lent.n (length times) long, tt))
    (of-keeps (times_of times) (clauses_of i.lent) (agree_keeps i.lent.n (times_of m.day) (times_of times) same (clauses_of i.lent) a.within m.plan.kept))
  where
    a : Accepted i.lent
    a = plan-accepted i v b times picks reasons s

    m : Shown i b times picks
    m = shows-means i (Plan v b) times picks reasons s

    long : i.lent.n ≤ length times
    long =
        omega (arith, ap length m.times-are, length-append m.day (replicate (i.times - i.lent.n) no_time), m.plan.latest.size)

    same : (e : ℕ) → e < i.lent.n → times_of m.day e ≡ times_of times e
    same e l =
        sym (ap (λ (t : List ℤ). times_of t e) m.times-are ∙ get_or-append m.day (replicate (i.times - i.lent.n) no_time) (pos 0) e (omega (arith, m.plan.latest.size)))
