-- What the definitions settle: two results that they allow for one input are the same; and programs that they shut out. Assumes nothing.
use mathlib.Core.Path.{◌≡◌, sym, ap, ◌∙◌, subst}
use mathlib.Core.List.{List, [], ◌∷◌}
use Prim.Native.Nat.{ℕ, ◌<◌}
use native.Mathlib.Omega.{arith}
use lib.IntN.{ℤ, pos}
use lib.ListN.{length, get_or, replicate, length-replicate, get_or-replicate}
use Rattle.laws.proofs.Tests.{never}
use Rattle.meaning.specs.declared.Answer.{Answer}
use Rattle.meaning.specs.declared.Answer.TheVariants.{Plan, Stopped, Refused}
use Rattle.meaning.specs.declared.Verdict.{Verdict}
use Rattle.meaning.specs.declared.Verdict.TheVariants.{Yes, No}
use Rattle.meaning.specs.declared.Panel.{Panel}
use Rattle.meaning.specs.Screen.{Lent, Input, screen, Shows}
use Rattle.meaning.specs.Verdicts.{reasons_verdict, timetable_verdict}
use Rattle.meaning.specs.Lamps.{panel}
use Rattle.meaning.proofs.Endings.{IsPlan}
use Rattle.meaning.proofs.Witnesses.{reasons-yes, timetable-yes}
use Rattle.meaning.proofs.Days.{Seen, days, seen, days-hold, d1, d4, d4-list, d4-read, d1-read, d8, usual, minus}

-- ---- two results for one input
pub screens-same : (i : Input) (a b : Answer) (t u : List ℤ) (p q r s : List ℕ) → Shows i a t p r → Shows i b u q s → (a ≡ b) × (t ≡ u) × (p ≡ q) × (r ≡ s)
screens-same i a b t u p q r s h k =
    (h.answers ∙ sym k.answers, h.times-are ∙ sym k.times-are, h.picks-are ∙ sym k.picks-are, h.reasons-are ∙ sym k.reasons-are)

pub verdicts-same : (l : Lent) (list : List ℕ) (v w : Verdict) → v ≡ reasons_verdict l list → w ≡ reasons_verdict l list → v ≡ w
verdicts-same l list v w h k = h ∙ sym k

pub timetable-verdicts-same : (l : Lent) (times : List ℤ) (v w : Verdict) → v ≡ timetable_verdict l times → w ≡ timetable_verdict l times → v ≡ w
timetable-verdicts-same l times v w h k = h ∙ sym k

pub panels-same : (l : Lent) (p q : Panel) → p ≡ panel l → q ≡ panel l → p ≡ q
panels-same l p q h k = h ∙ sym k

-- ---- shut out
-- a planner: what it leaves for each input is what the definitions allow
pub record Planner : Type 0 where
  pub answer : Input → Answer
  pub times : Input → List ℤ
  pub picks : Input → List ℕ
  pub reasons : Input → List ℕ
  pub shows : (i : Input) → Shows i (answer i) (times i) (picks i) (reasons i)

abbrev dark : Seen
dark = record { answer = Refused 0; times = []; picks = []; reasons = []; lamps = 0; total = 0 }

d1-plan : (screen (usual d1)).answer ≡ Plan 2 0
unfolding days seen
d1-plan = ap (λ (l : List Seen). (get_or l 0 dark).answer) days-hold

d1-day : get_or (screen (usual d1)).times 1 (pos 0) ≡ pos 0
unfolding days seen
d1-day = ap (λ (l : List Seen). get_or (get_or l 0 dark).times 1 (pos 0)) days-hold

d8-plan : (screen (usual d8)).answer ≡ Plan 3 0
unfolding days seen
d8-plan = ap (λ (l : List Seen). (get_or l 11 dark).answer) days-hold

d8-day : get_or (screen (usual d8)).times 1 (pos 0) ≡ minus 5
unfolding days seen
d8-day = ap (λ (l : List Seen). get_or (get_or l 11 dark).times 1 (pos 0)) days-hold

module _ (P : Planner) where
  is-d1 : P.answer (usual d1) ≡ Plan 2 0
  is-d1 = (P.shows (usual d1)).answers ∙ d1-plan

  pub not-only-refusing : ((i : Input) → (k : ℕ) × (P.answer i ≡ Refused k)) → ⊥
  not-only-refusing h = let e = (h (usual d1)).1 in let d = is-d1 in never (cc)

  pub not-always-stopped : ((i : Input) → (v : ℕ) × (b : ℕ) × (P.answer i ≡ Stopped v b)) → ⊥
  not-always-stopped h = let e = (h (usual d1)).2 in let d = is-d1 in never (cc)

  pub no-constant-day : (day : List ℤ) → ((i : Input) → IsPlan (P.answer i) → P.times i ≡ day) → ⊥
  no-constant-day day h =
      let e = h (usual d1) (subst IsPlan (sym is-d1) tt) in
      let f = h (usual d8) (subst IsPlan (sym ((P.shows (usual d8)).answers ∙ d8-plan)) tt) in
      let g = ap (λ (t : List ℤ). get_or t 1 (pos 0)) (sym (P.shows (usual d1)).times-are ∙ e ∙ sym f ∙ (P.shows (usual d8)).times-are) in
      let d = d1-day in
      let k = d8-day in
      never (cc)

-- one that leaves the lent timetable as it was, whatever that was
pub not-doing-nothing : (i : Input) (a : Answer) (p r : List ℕ) → 0 < i.times → ((t : List ℤ) → length t ≡ i.times → Shows i a t p r) → ⊥
not-doing-nothing i a p r l h =
    let e = (h (replicate i.times (pos 7)) (length-replicate i.times (pos 7))).times-are in
    let f = (h (replicate i.times (pos 8)) (length-replicate i.times (pos 8))).times-are in
    let g = ap (λ (t : List ℤ). get_or t 0 (pos 0)) (e ∙ sym f) in
    let d = get_or-replicate i.times 0 (pos 7) (pos 0) l in
    let k = get_or-replicate i.times 0 (pos 8) (pos 0) l in
    let z : ◌≡◌ {A = ℕ} 7 8 = cc in
    contra z
  where
    contra : ◌≡◌ {A = ℕ} 7 8 → ⊥
    contra z = omega arith

-- one that invents visits or before
pub not-inventing : (i : Input) (v w b c : ℕ) (t u : List ℤ) (p q r s : List ℕ) → Shows i (Plan v b) t p r → Shows i (Plan w c) u q s → (v ≡ w) × (b ≡ c)
not-inventing i v w b c t u p q r s h k =
    let e = (screens-same i (Plan v b) (Plan w c) t u p q r s h k).0 in
    (cc, cc)

-- readers that always say the same
pub reader-not-always-no : (R : Lent → List ℕ → Verdict) → ((l : Lent) (list : List ℕ) → R l list ≡ reasons_verdict l list) → ((l : Lent) (list : List ℕ) → R l list ≡ No) → ⊥
reader-not-always-no R h n =
    let e = h d4 (d4-list 0 1) in
    let f = n d4 (d4-list 0 1) in
    let g = ap (λ (l : List Verdict). get_or l 0 No) d4-read in
    never (cc)

pub reader-not-always-yes : (R : Lent → List ℕ → Verdict) → ((l : Lent) (list : List ℕ) → R l list ≡ reasons_verdict l list) → ((l : Lent) (list : List ℕ) → R l list ≡ Yes) → ⊥
reader-not-always-yes R h y =
    reasons-yes d1 [] (sym (h d1 []) ∙ y d1 []) _ (timetable-yes d1 _ (ap (λ (l : List Verdict). get_or l 0 No) d1-read))

pub timetable-reader-not-always : (R : Lent → List ℤ → Verdict) → ((l : Lent) (t : List ℤ) → R l t ≡ timetable_verdict l t) → (v : Verdict) → ((l : Lent) (t : List ℤ) → R l t ≡ v) → ⊥
timetable-reader-not-always R h v same =
    let y = ap (λ (l : List Verdict). get_or l 0 No) d1-read in
    let n = ap (λ (l : List Verdict). get_or l 1 Yes) d1-read in
    let e = h d1 (minus 30 ∷ pos 0 ∷ []) in
    let f = h d1 (minus 29 ∷ pos 0 ∷ []) in
    let g = same d1 (minus 30 ∷ pos 0 ∷ []) in
    let k = same d1 (minus 29 ∷ pos 0 ∷ []) in
    never (cc)
