-- How a screen came about: the five rows of the table, and what each means. Demands 1, 2 and 3 of whatever a call may leave. Assumes nothing.
use mathlib.Core.Path.{◌≡◌, refl, sym, ap, ◌∙◌, subst}
use mathlib.Core.Bool.{Bool, true, false}
use mathlib.Core.Logic.{◌⊎◌, inl, inr}
use mathlib.Core.List.{List, [], ◌++◌}
use Prim.Native.Nat.{ℕ, zero, suc, ◌-◌, ◌*◌, ◌^◌, ◌≤◌}
use native.Mathlib.Nat.{le_trans}
use native.Mathlib.Omega.{arith}
use lib.Dec.{T, leb, leb→le}
use lib.IntN.{ℤ}
use lib.ListN.{length, replicate}
use Rattle.laws.proofs.Tests.{is_true}
use Rattle.meaning.specs.declared.Answer.{Answer}
use Rattle.meaning.specs.declared.Answer.TheVariants.{Plan, None, Unlisted, Stopped, Refused}
use Rattle.meaning.specs.Limits.{row_bytes, blank_byte, no_time}
use Rattle.meaning.specs.Problem.{Timetable, Keeps}
use Rattle.meaning.specs.Plain.{chosen, times_of}
use Rattle.meaning.specs.Decision.{sound, latest_of}
use Rattle.meaning.specs.Search.{Row, Outcome, found, closed, stopped}
use Rattle.meaning.specs.Screen.{Lent, Input, clauses_of, refusal, Screen, cleared, listed, shown, outcome, decided, screen, Shows}
use Rattle.meaning.proofs.Refusals.{plan-problem}
use Rattle.meaning.proofs.Accepted.{Accepted, accepted}
use Rattle.meaning.proofs.Demands.{FirstPlan, NoPlan, Halt, found_first, closed_none, stopped-halt}
use Rattle.meaning.proofs.Deciding.{sound-decides}
use Rattle.meaning.proofs.Fits.{product-fits, rank-within}
use Rattle.meaning.proofs.Rows.{rows_few}
use Rattle.meaning.proofs.Visits.{Stops, need, enough}

-- the five rows of the table, with what led there
pub data Ending (i : Input) (s : Screen) : Type 0 where
  refuses : (r : ℕ) → refusal i ≡ suc r → s ≡ cleared i (Refused (suc r)) → Ending i s
  plans : (p : List ℕ) (b w : ℕ) → Accepted i.lent → outcome i ≡ found p b w → s ≡ shown i (found p b w) → Ending i s
  lists : (b : ℕ) (r : List Row) (w : ℕ) → Accepted i.lent → outcome i ≡ closed b r w → length r * row_bytes ≤ i.room → s ≡ listed i (i.allowance - w) b r true → Ending i s
  omits : (b : ℕ) (r : List Row) (w : ℕ) → Accepted i.lent → outcome i ≡ closed b r w → s ≡ listed i (i.allowance - w) b r false → Ending i s
  stops : (b : ℕ) (r : List Row) (p : List ℕ) → Accepted i.lent → outcome i ≡ stopped b r p → s ≡ cleared i (Stopped i.allowance b) → Ending i s

pub ending : (i : Input) → Ending i (screen i)
unfolding screen
ending i = by-refusal (refusal i) refl
  where
    by-room : (b : ℕ) (r : List Row) (w : ℕ) (fits : Bool) → leb (length r * row_bytes) i.room ≡ fits → Accepted i.lent → outcome i ≡ closed b r w → Ending i (listed i (i.allowance - w) b r fits)
    by-room b r w true f a e = lists b r w a e (leb→le (length r * row_bytes) i.room (subst T (sym f) tt)) refl
    by-room b r w false f a e = omits b r w a e refl

    by-outcome : (o : Outcome) → outcome i ≡ o → Accepted i.lent → Ending i (shown i o)
    by-outcome (found p b w) e a = plans p b w a e refl
    by-outcome (closed b r w) e a = unfold shown in by-room b r w (leb (length r * row_bytes) i.room) refl a e
    by-outcome (stopped b r p) e a = stops b r p a e (unfold shown in refl)

    by-refusal : (r : ℕ) → refusal i ≡ r → Ending i (decided i r)
    by-refusal zero e = unfold decided in by-outcome (outcome i) refl (accepted i.lent (plan-problem i e))
    by-refusal (suc r) e = refuses r e (unfold decided in refl)

-- ---- what an answer means
-- "all 1; all 255"
pub record Clear (i : Input) (times : List ℤ) (picks : List ℕ) : Type 0 where
  pub no-times : times ≡ replicate i.times no_time
  pub no-picks : picks ≡ replicate i.picks blank_byte

-- "n times then 1s; m positions then 255s", of the plan that demand 3 speaks of
pub record Shown (i : Input) (b : ℕ) (times : List ℤ) (picks : List ℕ) : Type 0 where
  pub choice : List ℕ
  pub day : List ℤ
  pub plan : FirstPlan i.lent choice b day
  pub times-are : times ≡ day ++ replicate (i.times - i.lent.n) no_time
  pub picks-are : picks ≡ choice ++ replicate (i.picks - length choice) blank_byte

abbrev pub Means : Input → Answer → List ℤ → List ℕ → Type 0
Means i (Plan v b) times picks = Shown i b times picks
Means i (None v b r) times picks = NoPlan i.lent b × Clear i times picks
Means i (Unlisted v b r) times picks = NoPlan i.lent b × Clear i times picks
Means i (Stopped v b) times picks = (v ≡ i.allowance) × Halt i.lent b × Clear i times picks
Means i (Refused k) times picks = (refusal i ≡ k) × Clear i times picks

ending-means : (i : Input) (s : Screen) → Ending i s → Means i s.answer s.times s.picks
ending-means i s (refuses r e q) =
    subst (λ x. Means i x.answer x.times x.picks) (sym q)
    (unfold cleared in (e, record { no-times = refl; no-picks = refl }))
ending-means i s (plans p b w a e q) =
    subst (λ x. Means i x.answer x.times x.picks) (sym q)
    (unfold shown in record {
      choice = p;
      day = latest_of i.lent.n (chosen (clauses_of i.lent) p);
      plan = found_first i.lent a i.allowance p b w e;
      times-are = refl;
      picks-are = refl;
    })
ending-means i s (lists b r w a e f q) =
    subst (λ x. Means i x.answer x.times x.picks) (sym q)
    (unfold listed in (closed_none i.lent a i.allowance b r w e, record { no-times = refl; no-picks = refl }))
ending-means i s (omits b r w a e q) =
    subst (λ x. Means i x.answer x.times x.picks) (sym q)
    (unfold listed cleared in (closed_none i.lent a i.allowance b r w e, record { no-times = refl; no-picks = refl }))
ending-means i s (stops b r p a e q) =
    subst (λ x. Means i x.answer x.times x.picks) (sym q)
    (unfold cleared in (refl, stopped-halt i.lent a i.allowance b r p e, record { no-times = refl; no-picks = refl }))

-- the numbers of an answer: visits within the allowance, before within 64 bits, rows at most 5 times the visits
abbrev pub Fit : Input → Answer → Type 0
Fit i (Plan v b) = (v ≤ i.allowance) × (b ≤ 2 ^ 63)
Fit i (None v b r) = (v ≤ i.allowance) × (b ≤ 2 ^ 63) × (r ≤ 5 * v)
Fit i (Unlisted v b r) = (v ≤ i.allowance) × (b ≤ 2 ^ 63) × (r ≤ 5 * v)
Fit i (Stopped v b) = (v ≤ i.allowance) × (b ≤ 2 ^ 63)
Fit i (Refused k) = Unit {0}

rows_fit : (i : Input) (b : ℕ) (r : List Row) (w : ℕ) → Accepted i.lent → outcome i ≡ closed b r w → length r ≤ 5 * (i.allowance - w)
rows_fit i b r w a e =
    omega (arith, rows_few sound (clauses_of i.lent) i.allowance b r w a.short (is_true (sound []) (sound-decides.whole [] (times_of []) tt)) e)

ending-fits : (i : Input) (s : Screen) → Ending i s → Fit i s.answer
ending-fits i s (refuses r e q) = subst (λ x. Fit i x.answer) (sym q) (unfold cleared in tt)
ending-fits i s (plans p b w a e q) =
    let k = found_first i.lent a i.allowance p b w e in
    subst (λ x. Fit i x.answer) (sym q)
    (unfold shown in (omega arith, le_trans (omega (arith, k.place, k.counted)) (product-fits (clauses_of i.lent) a.short a.all)))
ending-fits i s (lists b r w a e f q) =
    let k = closed_none i.lent a i.allowance b r w e in
    subst (λ x. Fit i x.answer) (sym q)
    (unfold listed in (omega arith, omega (arith, k.counted, product-fits (clauses_of i.lent) a.short a.all), rows_fit i b r w a e))
ending-fits i s (omits b r w a e q) =
    let k = closed_none i.lent a i.allowance b r w e in
    subst (λ x. Fit i x.answer) (sym q)
    (unfold listed cleared in (omega arith, omega (arith, k.counted, product-fits (clauses_of i.lent) a.short a.all), rows_fit i b r w a e))
ending-fits i s (stops b r p a e q) =
    let k = stopped-halt i.lent a i.allowance b r p e in
    subst (λ x. Fit i x.answer) (sym q)
    (unfold cleared in (omega arith, le_trans (omega (arith, k.ranked, rank-within (clauses_of i.lent) k.standing k.stands)) (product-fits (clauses_of i.lent) a.short a.all)))

-- ---- of whatever a call may leave
abbrev pub IsPlan : Answer → Type 0
IsPlan (Plan v b) = Unit {0}
IsPlan (None v b r) = ⊥
IsPlan (Unlisted v b r) = ⊥
IsPlan (Stopped v b) = ⊥
IsPlan (Refused k) = ⊥

abbrev pub IsNone : Answer → Type 0
IsNone (Plan v b) = ⊥
IsNone (None v b r) = Unit {0}
IsNone (Unlisted v b r) = Unit {0}
IsNone (Stopped v b) = ⊥
IsNone (Refused k) = ⊥

-- some timetable keeps the problem
abbrev pub Kept : Lent → Type 0
Kept l = (t : Timetable) × Keeps t (clauses_of l)

-- with an allowance that suffices: a plan and some timetable keeps the problem, or none and no timetable does
answered : (i : Input) (a : Answer) (s : Screen) → Ending i s → a ≡ s.answer → refusal i ≡ 0 → need (clauses_of i.lent) ≤ i.allowance → (IsPlan a × Kept i.lent) ⊎ (IsNone a × (Kept i.lent → ⊥))
answered i a s (refuses r e q) d z n = absurd (clash e z)
  where
    clash : {k : ℕ} → k ≡ suc r → k ≡ 0 → ⊥
    clash g h = omega arith
answered i a s (plans p b w c e q) d z n =
    let k = found_first i.lent c i.allowance p b w e in
    inl (subst IsPlan (sym (d ∙ ap (λ x. x.answer) q)) (unfold shown in tt), (times_of (latest_of i.lent.n (chosen (clauses_of i.lent) p)), k.kept))
answered i a s (lists b r w c e f q) d z n =
    inr (subst IsNone (sym (d ∙ ap (λ x. x.answer) q)) (unfold listed in tt), λ h. (closed_none i.lent c i.allowance b r w e).unkept h.0 h.1)
answered i a s (omits b r w c e q) d z n =
    inr (subst IsNone (sym (d ∙ ap (λ x. x.answer) q)) (unfold listed cleared in tt), λ h. (closed_none i.lent c i.allowance b r w e).unkept h.0 h.1)
answered i a s (stops b r p c e q) d z n =
    absurd (enough sound (clauses_of i.lent) i.allowance n (subst Stops (sym e) tt))

module _ (i : Input) (a : Answer) (times : List ℤ) (picks reasons : List ℕ) (s : Shows i a times picks reasons) where
  -- what the answer means, demand 3 among it
  pub shows-means : Means i a times picks
  shows-means =
      subst (λ x. Means i x times picks) (sym s.answers)
      (subst (λ x. Means i (screen i).answer x picks) (sym s.times-are)
      (subst (λ x. Means i (screen i).answer (screen i).times x) (sym s.picks-are) (ending-means i (screen i) (ending i))))

  -- its numbers fit
  pub shows-fit : Fit i a
  shows-fit = subst (Fit i) (sym s.answers) (ending-fits i (screen i) (ending i))

  -- demand 1: "on every answer that is not a plan the timetable reads 1 throughout"
  pub plan-or-ones : IsPlan a ⊎ (times ≡ replicate i.times no_time)
  plan-or-ones = go a shows-means
    where
      go : (a : Answer) → Means i a times picks → IsPlan a ⊎ (times ≡ replicate i.times no_time)
      go (Plan v b) m = inl tt
      go (None v b r) m = inr m.1.no-times
      go (Unlisted v b r) m = inr m.1.no-times
      go (Stopped v b) m = inr m.2.no-times
      go (Refused k) m = inr m.1.no-times

  -- demand 1: a fault has its number
  pub fault-number : (k : ℕ) → refusal i ≡ suc k → a ≡ Refused (suc k)
  unfolding screen decided cleared
  fault-number k e = s.answers ∙ ap (λ (r : ℕ). (decided i r).answer) e

  -- demand 2, both ways
  pub demand-two : refusal i ≡ 0 → need (clauses_of i.lent) ≤ i.allowance → (IsPlan a × Kept i.lent) ⊎ (IsNone a × (Kept i.lent → ⊥))
  demand-two = answered i a (screen i) (ending i) s.answers
