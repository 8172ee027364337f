-- Laws of what a writer leaves: no text, one text after another, and a list one text longer. Assumes nothing.
use Rattle.std.proofs.Common.{◌≡◌, ◌∙◌, refl, sym, ap, ◌+◌, ◌<◌, ◌++◌, List, [], ◌∷◌, ℕ, map, take, length, get_or, set, ◌≤◌}
use mathlib.Core.List.{map-append, append_assoc, append-nil}
use Rattle.std.proofs.lemmas.List.{take_more}
use Rattle.dialogue.specs.declared.writing.Writer.{Writer}
use Rattle.dialogue.specs.Written.{led}
use Rattle.dialogue.specs.Puts.{Puts}
use Rattle.dialogue.proofs.Buffers.{written_none, to_none, written-full, to-full, written-byte, to-byte, written_then, to-then}

pub puts-none : (a : Writer) → Puts a a []
puts-none a = record { after = sym (written_none a.out.now a.at); place = sym (to_none a.out.now a.at); lent = refl }

-- where there is no room
pub puts_full : (a : Writer) (t : List ℕ) → length a.out.now ≤ a.at → Puts a a t
puts_full a t h = record { after = sym (written-full a.out.now a.at t h); place = sym (to-full a.out.now a.at t h); lent = refl }

-- where there is room for a byte
pub puts-byte : (a : Writer) {b : Writer} (x : ℕ) → a.at < length a.out.now → b.out.now ≡ set a.out.now a.at x → b.at ≡ a.at + 1 → b.out.ghost_name ≡ a.out.ghost_name → Puts a b (x ∷ [])
puts-byte a x h e p g =
    record {
      after = e ∙ sym (written-byte a.out.now a.at x h);
      place = p ∙ sym (to-byte a.out.now a.at x h);
      lent = g;
    }

pub puts_then : {a b c : Writer} {t u : List ℕ} → Puts a b t → Puts b c u → Puts a c (t ++ u)
puts_then {a} {b} {c} {t} {u} p q =
    record {
      after = q.after ∙ rw (p.after, p.place) (written_then a.out.now a.at t u);
      place = q.place ∙ rw (p.after, p.place) (to-then a.out.now a.at t u);
      lent = q.lent ∙ p.lent;
    }

-- ---- a text that is written part by part: whatever writes the rest has written all
pub record Remains (first now : Writer) (all rest : List ℕ) : Type 0 where
  pub done : (end : Writer) → Puts now end rest → Puts first end all

pub remains-all : (a : Writer) (t : List ℕ) → Remains a a t t
remains-all a t = record { done = λ end p. p }

pub remains_on : {a b c : Writer} {all t rest : List ℕ} → Remains a b all (t ++ rest) → Puts b c t → Remains a c all rest
remains_on r q = record { done = λ end p. r.done end (puts_then q p) }

pub remains-none : {a b : Writer} {all : List ℕ} → Remains a b all [] → Puts a b all
remains-none {a} {b} r = r.done b (puts-none b)

-- ---- a list of texts
led-append : (a b : List (List ℕ)) → led (a ++ b) ≡ led a ++ led b
unfolding led
led-append [] b = refl
led-append (t ∷ a) b = ap (λ (l : List ℕ). 32 ∷ l) (ap (λ (l : List ℕ). t ++ l) (led-append a b) ∙ sym (append_assoc t (led a) (led b)))

-- the texts of a list up to the next: those so far, a space, and its own
pub led-more : {A : Type 0} (f : A → List ℕ) (l : List A) (i : ℕ) (z : A) → i < length l → led (map f (take (i + 1) l)) ≡ led (map f (take i l)) ++ (32 ∷ f (get_or l i z))
unfolding led
led-more f l i z h =
    ap (λ (x : List _). led (map f x)) (take_more l i z h)
    ∙ ap led (map-append f (take i l) (get_or l i z ∷ []))
    ∙ led-append (map f (take i l)) (f (get_or l i z) ∷ [])
    ∙ ap (λ (x : List ℕ). led (map f (take i l)) ++ (32 ∷ x)) (append-nil (f (get_or l i z)))
