-- The search as a loop: what is left at a place is one taking and what is left at the next place. Assumes nothing.
use mathlib.Core.Path.{◌≡◌, refl, sym, ap, ap₂, ◌∙◌, subst}
use mathlib.Core.Bool.{Bool, true, false}
use mathlib.Core.Option.{Option, some, none}
use mathlib.Core.List.{List, [], ◌∷◌, ◌++◌, map, append-nil}
use Prim.Native.Nat.{ℕ, zero, suc, ◌+◌, ◌<◌}
use native.Mathlib.Nat.{le_of_suc-le-suc, not-suc-le-zero}
use native.Mathlib.Omega.{arith}
use lib.Dec.{T, ltb, ltb→lt, lt→ltb}
use lib.ListN.{length, get_or, drop}
use Rattle.laws.proofs.Tests.{never}
use Rattle.meaning.specs.Limits.{onward_mark}
use Rattle.meaning.specs.Problem.{Alternative, opposite, Clause}
use Rattle.meaning.specs.Plain.{product}
use Rattle.meaning.specs.Search.{Standing, Row, mark, cycle, Outcome, found, closed, stopped, taking, facts, enter, look, later, and_then, branch, again, first_dead, search, resume, past, next, sideways}
use Rattle.meaning.proofs.Carry.{later-none, and_then-later}

-- the facts after positions 0 to j of a clause
abbrev beyond : ℕ → Clause → List Alternative → List Alternative
beyond j [] fs = fs
beyond zero (a ∷ more) fs = opposite a ∷ fs
beyond (suc j) (a ∷ more) fs = beyond j more (opposite a ∷ fs)

again-is : (re go : List Alternative → ℕ → Outcome) (i j : ℕ) (c : Clause) (fs : List Alternative) (v : ℕ) → j < length c → again re go i j c fs v ≡ and_then (i + j) (re (taking j c fs) v) (λ w. branch go (suc (i + j)) (drop (suc j) c) (beyond j c fs) w)
unfolding again
again-is re go i j [] fs v l = absurd (not-suc-le-zero l)
again-is re go i zero (a ∷ more) fs v l = ap (λ (m : ℕ). and_then m (re (a ∷ fs) v) (λ w. branch go (suc m) more (opposite a ∷ fs) w)) (omega arith)
again-is re go i (suc j) (a ∷ more) fs v l =
    again-is re go (suc i) j more (opposite a ∷ fs) v (le_of_suc-le-suc l)
    ∙ ap (λ (m : ℕ). and_then m (re (taking j more (opposite a ∷ fs)) v) (λ w. branch go (suc m) (drop (suc j) more) (beyond j more (opposite a ∷ fs)) w)) (omega arith)

-- the alternatives after position j are those from position j + 1 on
branch-next : (go : List Alternative → ℕ → Outcome) (i j : ℕ) (c : Clause) (fs : List Alternative) (v : ℕ) → suc j < length c → branch go (suc (i + j)) (drop (suc j) c) (beyond j c fs) v ≡ again go go i (suc j) c fs v
unfolding branch again
branch-next go i j [] fs v l = absurd (not-suc-le-zero l)
branch-next go i j (a ∷ []) fs v l = absurd (not-suc-le-zero (le_of_suc-le-suc l))
branch-next go i zero (a ∷ (b ∷ more)) fs v l = ap (λ (m : ℕ). branch go (suc m) (b ∷ more) (opposite a ∷ fs) v) (omega arith)
branch-next go i (suc j) (a ∷ (b ∷ more)) fs v l =
    ap (λ (m : ℕ). branch go (suc m) (drop (suc j) (b ∷ more)) (beyond j (b ∷ more) (opposite a ∷ fs)) v) (omega arith)
    ∙ branch-next go (suc i) j (b ∷ more) (opposite a ∷ fs) v (le_of_suc-le-suc l)

branch-end : (go : List Alternative → ℕ → Outcome) (i j : ℕ) (c : Clause) (fs gs : List Alternative) (v : ℕ) → (suc j < length c → ⊥) → branch go i (drop (suc j) c) gs v ≡ closed 0 [] v
unfolding branch
branch-end go i j [] fs gs v l = refl
branch-end go i zero (a ∷ []) fs gs v l = refl
branch-end go i zero (a ∷ (b ∷ more)) fs gs v l = absurd (l (omega arith))
branch-end go i (suc j) (a ∷ more) fs gs v l = branch-end go i j more fs gs v (λ h. l (omega arith))

enter-is : {b d : Bool} → b ≡ d → (cs : List Clause) (fs : List Alternative) (v : ℕ) (go : ℕ → Outcome) → enter b cs fs v go ≡ enter d cs fs v go
enter-is e cs fs v go = ap (λ (b : Bool). enter b cs fs v go) e

module _ (sound : List Alternative → Bool) where
  -- the outcome of a standing, and what comes after it
  plug : List Clause → ℕ → List ℕ → List Alternative → Outcome → Outcome
  plug [] k p fs o = o
  plug (c ∷ cs) k [] fs o = o
  plug (c ∷ cs) k (j ∷ p) fs o =
      and_then j (plug cs (suc k) p (taking j c fs) o)
      (λ w. branch (λ f u. search sound cs (suc k) f u) (suc j) (drop (suc j) c) (beyond j c fs) w)

  again-here : (re go : List Alternative → ℕ → Outcome) (j : ℕ) (c : Clause) (fs : List Alternative) (v : ℕ) → j < length c → again re go 0 j c fs v ≡ and_then j (re (taking j c fs) v) (λ w. branch go (suc j) (drop (suc j) c) (beyond j c fs) w)
  again-here re go j c fs v l =
      again-is re go 0 j c fs v l
      ∙ ap (λ (m : ℕ). and_then m (re (taking j c fs) v) (λ w. branch go (suc m) (drop (suc j) c) (beyond j c fs) w)) (omega arith)

  pub resume-none : (cs : List Clause) (k : ℕ) (fs : List Alternative) (v : ℕ) → resume sound cs k [] fs v ≡ search sound cs k fs v
  unfolding resume
  resume-none [] k fs v = refl
  resume-none (c ∷ cs) k fs v = refl

  resume-under : (cs : List Clause) (k : ℕ) (p q : List ℕ) (fs : List Alternative) (v : ℕ) → Standing cs p → resume sound cs k (p ++ q) fs v ≡ plug cs k p fs (resume sound (past cs p) (length p + k) q (facts cs p fs) v)
  unfolding plug resume past
  resume-under [] k [] q fs v s = ap (λ (m : ℕ). resume sound [] m q fs v) (omega arith)
  resume-under [] k (j ∷ p) q fs v s = absurd s
  resume-under (c ∷ cs) k [] q fs v s = ap (λ (m : ℕ). resume sound (c ∷ cs) m q fs v) (omega arith)
  resume-under (c ∷ cs) k (j ∷ p) q fs v s =
      again-here _ _ j c fs v s.0
      ∙ ap (λ o. and_then j o (λ w. branch (λ f u. search sound cs (suc k) f u) (suc j) (drop (suc j) c) (beyond j c fs) w))
      (resume-under cs (suc k) p q (taking j c fs) v s.1
      ∙ ap (λ (m : ℕ). plug cs (suc k) p (taking j c fs) (resume sound (past cs p) m q (facts cs p (taking j c fs)) v)) (omega arith))

  plug-later : (cs : List Clause) (k : ℕ) (p : List ℕ) (fs : List Alternative) (n : ℕ) (r : List Row) (o : Outcome) → plug cs k p fs (later n r o) ≡ later n r (plug cs k p fs o)
  unfolding plug
  plug-later [] k p fs n r o = refl
  plug-later (c ∷ cs) k [] fs n r o = refl
  plug-later (c ∷ cs) k (j ∷ p) fs n r o =
      ap (λ x. and_then j x (λ w. branch (λ f u. search sound cs (suc k) f u) (suc j) (drop (suc j) c) (beyond j c fs) w)) (plug-later cs (suc k) p (taking j c fs) n r o)
      ∙ and_then-later j n r (plug cs (suc k) p (taking j c fs) o) _

  -- what is left after a standing that is closed
  unfoldable pub onward : List Clause → ℕ → Option (List ℕ) → List Alternative → ℕ → Outcome
  onward cs k (some q) fs w = resume sound cs k q fs w
  onward cs k none fs w = closed 0 [] w

  branch-onward : (b : Bool) (j k : ℕ) (c : Clause) (cs : List Clause) (fs : List Alternative) (w : ℕ) → ltb (suc j) (length c) ≡ b → branch (λ f u. search sound cs (suc k) f u) (suc j) (drop (suc j) c) (beyond j c fs) w ≡ onward (c ∷ cs) k (sideways b j none) fs w
  unfolding onward sideways resume
  branch-onward true j k c cs fs w e =
      ap (λ (m : ℕ). branch (λ f u. search sound cs (suc k) f u) (suc m) (drop (suc j) c) (beyond j c fs) w) (omega arith)
      ∙ branch-next (λ f u. search sound cs (suc k) f u) 0 j c fs w (ltb→lt (suc j) (length c) (subst T (sym e) tt))
      ∙ ap (λ (re : List Alternative → ℕ → Outcome). again re (λ f u. search sound cs (suc k) f u) 0 (suc j) c fs w) (λ i f u. sym (resume-none cs (suc k) f u) i)
  branch-onward false j k c cs fs w e =
      branch-end (λ f u. search sound cs (suc k) f u) (suc j) j c fs (beyond j c fs) w (λ h. subst T e (lt→ltb (suc j) (length c) h))

  onward-deeper : (o : Option (List ℕ)) (j k : ℕ) (c : Clause) (cs : List Clause) (fs : List Alternative) (w : ℕ) → j < length c → and_then j (onward cs (suc k) o (taking j c fs) w) (λ u. branch (λ f x. search sound cs (suc k) f x) (suc j) (drop (suc j) c) (beyond j c fs) u) ≡ onward (c ∷ cs) k (sideways (ltb (suc j) (length c)) j o) fs w
  unfolding onward sideways resume and_then
  onward-deeper (some q) j k c cs fs w l = sym (again-here (λ f u. resume sound cs (suc k) q f u) (λ f x. search sound cs (suc k) f x) j c fs w l)
  onward-deeper none j k c cs fs w l = later-none _ ∙ branch-onward (ltb (suc j) (length c)) j k c cs fs w refl

  plug-closed : (cs : List Clause) (k : ℕ) (p : List ℕ) (fs : List Alternative) (w : ℕ) → Standing cs p → plug cs k p fs (closed 0 [] w) ≡ onward cs k (next cs p) fs w
  unfolding plug next onward
  plug-closed [] k p fs w s = refl
  plug-closed (c ∷ cs) k [] fs w s = refl
  plug-closed (c ∷ cs) k (j ∷ p) fs w s =
      ap (λ o. and_then j o (λ u. branch (λ f x. search sound cs (suc k) f x) (suc j) (drop (suc j) c) (beyond j c fs) u)) (plug-closed cs (suc k) p (taking j c fs) w s.1)
      ∙ onward-deeper (next cs p) j k c cs fs w s.0

  plug-found : (cs : List Clause) (k : ℕ) (p : List ℕ) (fs : List Alternative) (w : ℕ) → Standing cs p → plug cs k p fs (found [] 0 w) ≡ found p 0 w
  unfolding plug and_then
  plug-found [] k [] fs w s = refl
  plug-found [] k (j ∷ p) fs w s = absurd s
  plug-found (c ∷ cs) k [] fs w s = refl
  plug-found (c ∷ cs) k (j ∷ p) fs w s =
      ap (λ o. and_then j o (λ u. branch (λ f x. search sound cs (suc k) f x) (suc j) (drop (suc j) c) (beyond j c fs) u)) (plug-found cs (suc k) p (taking j c fs) w s.1)

  plug-stopped : (cs : List Clause) (k : ℕ) (p : List ℕ) (fs : List Alternative) → Standing cs p → plug cs k p fs (stopped 0 [] []) ≡ stopped 0 [] p
  unfolding plug and_then
  plug-stopped [] k [] fs s = refl
  plug-stopped [] k (j ∷ p) fs s = absurd s
  plug-stopped (c ∷ cs) k [] fs s = refl
  plug-stopped (c ∷ cs) k (j ∷ p) fs s =
      ap (λ o. and_then j o (λ u. branch (λ f x. search sound cs (suc k) f x) (suc j) (drop (suc j) c) (beyond j c fs) u)) (plug-stopped cs (suc k) p (taking j c fs) s')
    where
      s' : Standing cs p
      s' = s.1

  pub closed-later : (n : ℕ) (r : List Row) (w : ℕ) → closed n r w ≡ later n r (closed 0 [] w)
  unfolding later
  closed-later n r w = ap₂ (λ (m : ℕ) (s : List Row). closed m s w) (omega arith) (sym (append-nil r))

  search-unsound : (cs : List Clause) (k : ℕ) (fs : List Alternative) (v : ℕ) → sound fs ≡ false → search sound cs k fs v ≡ closed (product cs) (cycle fs ∷ []) v
  unfolding search enter
  search-unsound [] k fs v e = ap (λ (b : Bool). enter b [] fs v (λ w. found [] 0 w)) e
  search-unsound (c ∷ cs) k fs v e = enter-is e (c ∷ cs) fs v _

  search-stopped : (cs : List Clause) (k : ℕ) (fs : List Alternative) → sound fs ≡ true → search sound cs k fs 0 ≡ stopped 0 [] []
  unfolding search enter
  search-stopped [] k fs e = ap (λ (b : Bool). enter b [] fs 0 (λ w. found [] 0 w)) e
  search-stopped (c ∷ cs) k fs e = enter-is e (c ∷ cs) fs 0 _

  search-dead : (cs : List Clause) (k : ℕ) (fs : List Alternative) (w d : ℕ) → sound fs ≡ true → first_dead sound fs cs ≡ some d → search sound cs k fs (suc w) ≡ closed (product cs) (mark (200 + (k + d)) ∷ map (λ a. cycle (a ∷ fs)) (get_or cs d [])) w
  unfolding search enter look
  search-dead [] k fs w d e f = absurd (never (unfold first_dead in cc))
    where
      never : ◌≡◌ {A = ℕ} 0 1 → ⊥
      never z = omega arith
  search-dead (c ∷ cs) k fs w d e f =
      enter-is e (c ∷ cs) fs (suc w) _
      ∙ ap (λ (o : Option ℕ). look o k (c ∷ cs) fs w (later 0 (mark onward_mark ∷ []) (branch (λ g u. search sound cs (suc k) g u) 0 c fs w))) f

  search-open : (c : Clause) (cs : List Clause) (k : ℕ) (fs : List Alternative) (w : ℕ) → sound fs ≡ true → first_dead sound fs (c ∷ cs) ≡ none → search sound (c ∷ cs) k fs (suc w) ≡ later 0 (mark onward_mark ∷ []) (resume sound (c ∷ cs) k (0 ∷ []) fs w)
  unfolding search enter look resume
  search-open c cs k fs w e f =
      enter-is e (c ∷ cs) fs (suc w) _
      ∙ ap (λ (o : Option ℕ). look o k (c ∷ cs) fs w (later 0 (mark onward_mark ∷ []) (branch (λ g u. search sound cs (suc k) g u) 0 c fs w))) f
      ∙ ap (later 0 (mark onward_mark ∷ [])) (first c)
    where
      first : (c : Clause) → branch (λ g u. search sound cs (suc k) g u) 0 c fs w ≡ again (λ g u. resume sound cs (suc k) [] g u) (λ g u. search sound cs (suc k) g u) 0 0 c fs w
      first [] = unfold branch again in refl
      first (a ∷ more) = unfold branch again in ap (λ o. and_then 0 o (λ u. branch (λ g x. search sound cs (suc k) g x) 1 more (opposite a ∷ fs) u)) (sym (resume-none cs (suc k) (a ∷ fs) w))

  module _ (cs : List Clause) (k : ℕ) (p : List ℕ) (fs : List Alternative) (s : Standing cs p) where
    at_place : (v : ℕ) → resume sound cs k p fs v ≡ plug cs k p fs (search sound (past cs p) (length p + k) (facts cs p fs) v)
    at_place v =
        ap (λ (q : List ℕ). resume sound cs k q fs v) (sym (append-nil p))
        ∙ resume-under cs k p [] fs v s
        ∙ ap (plug cs k p fs) (resume-none (past cs p) (length p + k) (facts cs p fs) v)

    plug-over : (n : ℕ) (r : List Row) (w : ℕ) → plug cs k p fs (closed n r w) ≡ later n r (onward cs k (next cs p) fs w)
    plug-over n r w = ap (plug cs k p fs) (closed-later n r w) ∙ plug-later cs k p fs n r (closed 0 [] w) ∙ ap (later n r) (plug-closed cs k p fs w s)

    -- an unsound standing is passed over
    pub step-unsound : (v : ℕ) → sound (facts cs p fs) ≡ false → resume sound cs k p fs v ≡ later (product (past cs p)) (cycle (facts cs p fs) ∷ []) (onward cs k (next cs p) fs v)
    step-unsound v e = at_place v ∙ ap (plug cs k p fs) (search-unsound (past cs p) (length p + k) (facts cs p fs) v e) ∙ plug-over _ _ v

    -- a sound one stops a search with no visit left
    pub step-stopped : sound (facts cs p fs) ≡ true → resume sound cs k p fs 0 ≡ stopped 0 [] p
    step-stopped e = at_place 0 ∙ ap (plug cs k p fs) (search-stopped (past cs p) (length p + k) (facts cs p fs) e) ∙ plug-stopped cs k p fs s

    -- a whole one is the plan
    pub step-found : (w : ℕ) → sound (facts cs p fs) ≡ true → past cs p ≡ [] → resume sound cs k p fs (suc w) ≡ found p 0 w
    unfolding search enter
    step-found w e f =
        at_place (suc w)
        ∙ ap (λ (r : List Clause). plug cs k p fs (search sound r (length p + k) (facts cs p fs) (suc w))) f
        ∙ ap (λ (b : Bool). plug cs k p fs (enter b [] (facts cs p fs) (suc w) (λ u. found [] 0 u))) e
        ∙ plug-found cs k p fs w s

    -- a dead one is passed over
    pub step-dead : (w d : ℕ) → sound (facts cs p fs) ≡ true → first_dead sound (facts cs p fs) (past cs p) ≡ some d → resume sound cs k p fs (suc w) ≡ later (product (past cs p)) (mark (200 + (length p + k + d)) ∷ map (λ a. cycle (a ∷ facts cs p fs)) (get_or (past cs p) d [])) (onward cs k (next cs p) fs w)
    step-dead w d e f = at_place (suc w) ∙ ap (plug cs k p fs) (search-dead (past cs p) (length p + k) (facts cs p fs) w d e f) ∙ plug-over _ _ w

    -- any other goes down to position 0 of the next clause
    pub step-open : (w : ℕ) (c : Clause) (rest : List Clause) → past cs p ≡ c ∷ rest → sound (facts cs p fs) ≡ true → first_dead sound (facts cs p fs) (past cs p) ≡ none → resume sound cs k p fs (suc w) ≡ later 0 (mark onward_mark ∷ []) (resume sound cs k (p ++ (0 ∷ [])) fs w)
    step-open w c rest h e f =
        at_place (suc w)
        ∙ ap (plug cs k p fs) (open_at (past cs p) h f)
        ∙ plug-later cs k p fs 0 (mark onward_mark ∷ []) _
        ∙ ap (later 0 (mark onward_mark ∷ [])) (sym (resume-under cs k p (0 ∷ []) fs w s))
      where
        open_at : (r : List Clause) → r ≡ c ∷ rest → first_dead sound (facts cs p fs) r ≡ none → search sound r (length p + k) (facts cs p fs) (suc w) ≡ later 0 (mark onward_mark ∷ []) (resume sound r (length p + k) (0 ∷ []) (facts cs p fs) w)
        open_at [] h f = absurd (never (cc))
          where
            never : ◌≡◌ {A = ℕ} 0 1 → ⊥
            never z = omega arith
        open_at (d ∷ r) h f = search-open d r (length p + k) (facts cs p fs) w e f

sideways-standing : (c : Clause) (cs : List Clause) (b : Bool) (i : ℕ) (o : Option (List ℕ)) (q : List ℕ) → ltb (suc i) (length c) ≡ b → i < length c → ((r : List ℕ) → o ≡ some r → Standing cs r) → sideways b i o ≡ some q → Standing (c ∷ cs) q
unfolding sideways
sideways-standing c cs b i (some r) q e l h f = subst (Standing (c ∷ cs)) (let p : i ∷ r ≡ q = cc in p) (l, h r refl)
sideways-standing c cs true i none q e l h f = subst (Standing (c ∷ cs)) (let p : suc i ∷ [] ≡ q = cc in p) (ltb→lt (suc i) (length c) (subst T (sym e) tt), tt)
sideways-standing c cs false i none q e l h f = absurd (never (cc))

-- the next place is a standing
pub next-standing : (cs : List Clause) (p q : List ℕ) → Standing cs p → next cs p ≡ some q → Standing cs q
unfolding next
next-standing [] p q s e = absurd (never (cc))
next-standing (c ∷ cs) [] q s e = absurd (never (cc))
next-standing (c ∷ cs) (i ∷ p) q s e =
    sideways-standing c cs (ltb (suc i) (length c)) i (next cs p) q refl s.0 (λ r f. next-standing cs p r s.1 f) e

-- and so is position 0 of the next clause, where that is not empty
pub down-standing : (cs : List Clause) (p : List ℕ) (a : Alternative) (more : Clause) (rest : List Clause) → Standing cs p → past cs p ≡ (a ∷ more) ∷ rest → Standing cs (p ++ (0 ∷ []))
unfolding past
down-standing [] [] a more rest s e = absurd (never (cc))
down-standing [] (i ∷ p) a more rest s e = absurd s
down-standing (c ∷ cs) [] a more rest s e = (subst (λ (d : Clause). 0 < length d) (let q : a ∷ more ≡ c = cc in q) (omega arith), tt)
down-standing (c ∷ cs) (i ∷ p) a more rest s e = (s.0, down-standing cs p a more rest s.1 e)
