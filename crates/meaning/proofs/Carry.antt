-- More visits never change a plan or a none, and carry a stopped search on from its place. Assumes nothing.
use mathlib.Core.Path.{◌≡◌, refl, sym, ap, ap₂, ◌∙◌, subst}
use mathlib.Core.Bool.{Bool, true, false}
use mathlib.Core.Option.{Option, some, none}
use mathlib.Core.List.{List, [], ◌∷◌, ◌++◌, append_assoc}
use Prim.Native.Nat.{ℕ, zero, suc, ◌+◌}
use native.Mathlib.Nat.{zero-add, suc-add}
use native.Mathlib.Omega.{arith}
use Rattle.meaning.specs.Limits.{onward_mark}
use Rattle.meaning.specs.Problem.{Alternative, opposite, Clause}
use Rattle.meaning.specs.Search.{Row, mark, Outcome, found, closed, stopped, enter, look, later, and_then, branch, again, first_dead, search, resume}

-- an outcome with e visits more: a plan or a none is the same, and a stopped search goes on by `re`
unfoldable pub extend : (List ℕ → Outcome) → ℕ → Outcome → Outcome
extend re e (found p b w) = found p b (w + e)
extend re e (closed n r w) = closed n r (w + e)
extend re e (stopped b r p) = later b r (re p)

pub later-none : (o : Outcome) → later 0 [] o ≡ o
unfolding later
later-none (found p b w) = ap (λ (m : ℕ). found p m w) (omega arith)
later-none (closed n r w) = ap (λ (m : ℕ). closed m r w) (omega arith)
later-none (stopped b r p) = ap (λ (m : ℕ). stopped m r p) (omega arith)

pub later-later : (n m : ℕ) (r s : List Row) (o : Outcome) → later n r (later m s o) ≡ later (n + m) (r ++ s) o
unfolding later
later-later n m r s (found p b w) = ap (λ (k : ℕ). found p k w) (omega arith)
later-later n m r s (closed l t w) = ap₂ (λ (k : ℕ) (u : List Row). closed k u w) (omega arith) (sym (append_assoc r s t))
later-later n m r s (stopped b t p) = ap₂ (λ (k : ℕ) (u : List Row). stopped k u p) (omega arith) (sym (append_assoc r s t))

pub and_then-later : (i n : ℕ) (r : List Row) (o : Outcome) (rest : ℕ → Outcome) → and_then i (later n r o) rest ≡ later n r (and_then i o rest)
unfolding and_then later
and_then-later i n r (found p b w) rest = refl
and_then-later i n r (closed m s w) rest = sym (later-later n m r s (rest w))
and_then-later i n r (stopped b s p) rest = refl

module _ (re : List ℕ → List Alternative → ℕ → Outcome) (go : List Alternative → ℕ → Outcome) (e : ℕ) where
  -- what e visits more make of the alternatives from position i on
  Carried : ℕ → Clause → List Alternative → Outcome → Outcome → Type 0
  Carried i c fs (found p b w) o = o ≡ found p b (w + e)
  Carried i c fs (closed n r w) o = o ≡ closed n r (w + e)
  Carried i c fs (stopped b r p) o = (j : ℕ) × (q : List ℕ) × (p ≡ (i + j) ∷ q) × (o ≡ later b r (again (re q) go i j c fs e))

  later-carried : (i n : ℕ) (r : List Row) (a : Alternative) (more : Clause) (fs : List Alternative) (o o' : Outcome) → Carried (suc i) more (opposite a ∷ fs) o o' → Carried i (a ∷ more) fs (later n r o) (later n r o')
  unfolding Carried later again
  later-carried i n r a more fs (found p b w) o' h = ap (later n r) h
  later-carried i n r a more fs (closed m s w) o' h = ap (later n r) h
  later-carried i n r a more fs (stopped b s p) o' (j, q, eq, h) =
      (suc j, q, eq ∙ ap (λ (m : ℕ). m ∷ q) (omega arith), ap (later n r) h ∙ later-later n b r s (again (re q) go (suc i) j more (opposite a ∷ fs) e))

  then-carried : (i : ℕ) (a : Alternative) (more : Clause) (fs : List Alternative) (o o' : Outcome) → o' ≡ extend (λ p. re p (a ∷ fs) e) e o → ((w : ℕ) → Carried (suc i) more (opposite a ∷ fs) (branch go (suc i) more (opposite a ∷ fs) w) (branch go (suc i) more (opposite a ∷ fs) (w + e))) → Carried i (a ∷ more) fs (and_then i o (λ w. branch go (suc i) more (opposite a ∷ fs) w)) (and_then i o' (λ w. branch go (suc i) more (opposite a ∷ fs) w))
  unfolding Carried and_then again extend
  then-carried i a more fs (found p b w) o' h k = ap (λ x. and_then i x (λ w. branch go (suc i) more (opposite a ∷ fs) w)) h
  then-carried i a more fs (closed n r w) o' h k =
      subst (λ x. Carried i (a ∷ more) fs (later n r (branch go (suc i) more (opposite a ∷ fs) w)) (and_then i x (λ w. branch go (suc i) more (opposite a ∷ fs) w))) (sym h)
      (later-carried i n r a more fs _ _ (k w))
  then-carried i a more fs (stopped b r p) o' h k = (
    0,
    p,
    ap (λ (m : ℕ). m ∷ p) (omega arith),
    ap (λ x. and_then i x (λ w. branch go (suc i) more (opposite a ∷ fs) w)) h
        ∙ and_then-later i b r (re p (a ∷ fs) e) (λ w. branch go (suc i) more (opposite a ∷ fs) w),
  )

  branch-carried : ((fs : List Alternative) (v : ℕ) → go fs (v + e) ≡ extend (λ p. re p fs e) e (go fs v)) → (i : ℕ) (c : Clause) (fs : List Alternative) (v : ℕ) → Carried i c fs (branch go i c fs v) (branch go i c fs (v + e))
  unfolding Carried branch
  branch-carried h i [] fs v = refl
  branch-carried h i (a ∷ more) fs v =
      then-carried i a more fs (go (a ∷ fs) v) (go (a ∷ fs) (v + e)) (h (a ∷ fs) v)
      (λ w. branch-carried h (suc i) more (opposite a ∷ fs) w)

enter-carried : (b : Bool) (cs : List Clause) (fs : List Alternative) (v e : ℕ) (go : ℕ → Outcome) (re : List ℕ → Outcome) → ((w : ℕ) → go (w + e) ≡ extend re e (go w)) → re [] ≡ enter b cs fs e go → enter b cs fs (v + e) go ≡ extend re e (enter b cs fs v go)
unfolding enter extend
enter-carried false cs fs v e go re h z = refl
enter-carried true cs fs zero e go re h z = ap (λ (u : ℕ). enter true cs fs u go) (zero-add e) ∙ sym (later-none (re []) ∙ z)
enter-carried true cs fs (suc w) e go re h z = ap (λ (u : ℕ). enter true cs fs u go) (suc-add w e) ∙ h w

module _ (sound : List Alternative → Bool) where
  whole-carried : (c : Clause) (cs : List Clause) (k : ℕ) (fs : List Alternative) (e : ℕ) (o o' : Outcome) → Carried (λ p f u. resume sound cs (suc k) p f u) (λ f u. search sound cs (suc k) f u) e 0 c fs o o' → later 0 (mark onward_mark ∷ []) o' ≡ extend (λ p. resume sound (c ∷ cs) k p fs e) e (later 0 (mark onward_mark ∷ []) o)
  unfolding Carried extend later resume
  whole-carried c cs k fs e (found p b w) o' h = ap (later 0 (mark onward_mark ∷ [])) h
  whole-carried c cs k fs e (closed n r w) o' h = ap (later 0 (mark onward_mark ∷ [])) h
  whole-carried c cs k fs e (stopped b r p) o' (j, q, eq, h) =
      ap (later 0 (mark onward_mark ∷ [])) h
      ∙ later-later 0 b (mark onward_mark ∷ []) r (resume sound (c ∷ cs) k (j ∷ q) fs e)
      ∙ ap (λ (l : List ℕ). later (0 + b) (mark onward_mark ∷ r) (resume sound (c ∷ cs) k l fs e)) (sym (eq ∙ ap (λ (m : ℕ). m ∷ q) (zero-add j)))

  look-carried : (o : Option ℕ) (k : ℕ) (cs : List Clause) (fs : List Alternative) (w e : ℕ) (re : List ℕ → Outcome) (next next' : Outcome) → next' ≡ extend re e next → look o k cs fs (w + e) next' ≡ extend re e (look o k cs fs w next)
  unfolding look extend
  look-carried (some d) k cs fs w e re next next' h = refl
  look-carried none k cs fs w e re next next' h = h

  -- e visits more
  pub carry : (cs : List Clause) (k : ℕ) (fs : List Alternative) (v e : ℕ) → search sound cs k fs (v + e) ≡ extend (λ p. resume sound cs k p fs e) e (search sound cs k fs v)
  unfolding search resume
  carry [] k fs v e = enter-carried (sound fs) [] fs v e (λ w. found [] 0 w) (λ p. resume sound [] k p fs e) (λ w. unfold extend in refl) refl
  carry (c ∷ cs) k fs v e =
      enter-carried (sound fs) (c ∷ cs) fs v e _ (λ p. resume sound (c ∷ cs) k p fs e)
      (λ w.
      look-carried (first_dead sound fs (c ∷ cs)) k (c ∷ cs) fs w e (λ p. resume sound (c ∷ cs) k p fs e) _ _
      (whole-carried c cs k fs e _ _
      (branch-carried (λ p f u. resume sound cs (suc k) p f u) (λ f u. search sound cs (suc k) f u) e (λ f u. carry cs (suc k) f u e) 0 c fs w)))
      refl
