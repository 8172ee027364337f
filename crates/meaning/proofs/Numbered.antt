-- Facts that their numbers tell apart: each is the one that its number stands for, so a fact is found by its number. Assumes nothing.
use mathlib.Core.Path.{◌≡◌, refl, sym, ap, ◌∙◌}
use mathlib.Core.Bool.{Bool, true, false, cond}
use mathlib.Core.Option.{some}
use mathlib.Core.List.{List, [], ◌∷◌}
use Prim.Native.Nat.{ℕ}
use lib.Dec.{eqb}
use borrow.Author.Tests.{eqb-true, eqb-false}
use Rattle.laws.proofs.Tests.{never}
use Rattle.meaning.specs.Problem.{Alternative}
use Rattle.meaning.specs.Reasons.{named}
use Rattle.meaning.proofs.Settling.{Each, each-map₃}

-- f gives the fact that a number stands for
abbrev pub Numbered : (ℕ → Alternative) → List Alternative → Type 0
Numbered f fs = Each (λ a. f a.no ≡ a) fs

-- a fact is found by its number
abbrev pub Own : List Alternative → Alternative → Type 0
Own fs a = named fs a.no ≡ some a

module _ (P : Alternative → Type 0) where
  -- what a number names is one of the facts
  pub named-each : (fs : List Alternative) (b : ℕ) (a : Alternative) → Each P fs → named fs b ≡ some a → P a × (a.no ≡ b)
  unfolding named
  named-each [] b a h e = absurd (never (cc))
  named-each (x ∷ more) b a h e = go (eqb b x.no) refl e (λ q. named-each more b a h.1 q)
    where
      go : (s : Bool) → eqb b x.no ≡ s → cond s (some x) (named more b) ≡ some a → (named more b ≡ some a → P a × (a.no ≡ b)) → P a × (a.no ≡ b)
      go true q d later = let s : x ≡ a = cc in (rw (← s) h.0, ap (λ (y : Alternative). y.no) (sym s) ∙ sym (eqb-true b x.no q))
      go false q d later = later d

-- a fact is found by its number: what is found first has the same number, and is the same
pub numbered-own : (f : ℕ → Alternative) (fs : List Alternative) → Numbered f fs → Each (Own fs) fs
unfolding named
numbered-own f [] h = tt
numbered-own f (x ∷ more) h = (here x (eqb x.no x.no) refl (λ e. refl) (λ e. absurd (eqb-false x.no x.no e refl)), each-map₃ more (λ a p q r. here a (eqb a.no x.no) refl (λ e. sym h.0 ∙ ap f (sym (eqb-true a.no x.no e)) ∙ p) (λ e. r)) h.1 h.1 (numbered-own f more h.1))
  where
    here : (a : Alternative) (s : Bool) → eqb a.no x.no ≡ s → (s ≡ true → x ≡ a) → (s ≡ false → Own more a) → cond s (some x) (named more a.no) ≡ some a
    here a true q e r = ap some (e refl)
    here a false q e r = r refl
