-- A table of the rounds' times, row by row, and where the rounds may end. Assumes nothing.
use Prim.Native.Nat.{ℕ, suc, ◌+◌, ◌*◌, ◌-◌, ◌≤◌, ◌<◌, max}
use mathlib.Core.Path.{◌≡◌, sym, ap, ◌∙◌}
use mathlib.Core.List.{List, []}
use mathlib.Core.Bool.{Bool, true, false, cond, false≢true}
use native.Mathlib.Omega.{arith}
use native.Mathlib.Numerals.{add-one}
use native.Mathlib.Decide.{dec_le}
use lib.ListN.{length, get_or, set}
use lib.Seq.{get_or-set_same, get_or-set_other}
use Rattle.std.proofs.lemmas.List.{set-set}
use borrow.Author.Count.{below_more}
use Rattle.std.proofs.Common.{Option, Some, None, IsSome, IsNone}
use Rattle.problem.specs.declared.Edge.{Edge}
use Rattle.problem.specs.Arcs.{bias, at, Net, net, no_edge, head, tail, bound}
use Rattle.problem.proofs.Knowing.{head-is, tail-is, bound-is}
use Rattle.facts.specs.Tests.{Within}
use Rattle.facts.specs.Rounds.{turned, aimed, relax, upto, round, rows, Rounds, Moving, Ended, Stays, Rising}
use Rattle.facts.proofs.Rounding.{rows-bounded, rows-mono, same_after, none-rose}

-- a turn of a round's loop
pub upto-more : (g : Net) (L s nxt : List ℕ) (i j x y r : ℕ) → nxt ≡ upto g L s i → j ≡ at L i → x ≡ head g j → y ≡ tail g j → r ≡ max (at nxt x) (at s y + bias - bound g j) → set nxt x r ≡ upto g L s (i + 1)
unfolding upto relax
upto-more g L s nxt i j x y r a b c d e = rw (add-one i) (cc)

-- the same by the arc as it is kept, or turned round
upto-kept : (turn : Bool) (l : List Edge) (L s nxt : List ℕ) (i j x y r : ℕ) → nxt ≡ upto (aimed turn (net l)) L s i → j ≡ at L i → x ≡ cond turn (get_or l j no_edge).y (get_or l j no_edge).x → y ≡ cond turn (get_or l j no_edge).x (get_or l j no_edge).y → r ≡ max (at nxt x) (at s y + bias - (get_or l j no_edge).b) → set nxt x r ≡ upto (aimed turn (net l)) L s (i + 1)
upto-kept true l L s nxt i j x y r a b c d e =
    upto-more (turned (net l)) L s nxt i j x y r a b (c ∙ sym (tail-is l j)) (d ∙ sym (head-is l j)) (rw (← bound-is l j) at e)
upto-kept false l L s nxt i j x y r a b c d e =
    upto-more (net l) L s nxt i j x y r a b (c ∙ sym (head-is l j)) (d ∙ sym (tail-is l j)) (rw (← bound-is l j) at e)

-- a round from row k that is made in the row after it: what the table holds after its first i facts
module _ (turn : Bool) (l : List Edge) (L : List ℕ) (t u : List (List ℕ)) (k i : ℕ) (e : u ≡ set t (k + 1) (upto (aimed turn (net l)) L (get_or t k []) i)) where
  -- row k stays
  pub row-still : get_or u k [] ≡ get_or t k []
  row-still = ap (λ (s : List (List ℕ)). get_or s k []) e ∙ get_or-set_other t (k + 1) k _ [] (omega arith)

  -- a turn of its loop
  pub row-raised : k + 1 < length t → (j x y r : ℕ) → j ≡ at L i → x ≡ cond turn (get_or l j no_edge).y (get_or l j no_edge).x → y ≡ cond turn (get_or l j no_edge).x (get_or l j no_edge).y → r ≡ max (at (get_or u (k + 1) []) x) (at (get_or u k []) y + bias - (get_or l j no_edge).b) → set u (k + 1) (set (get_or u (k + 1) []) x r) ≡ set t (k + 1) (upto (aimed turn (net l)) L (get_or t k []) (i + 1))
  row-raised h j x y r b c d f =
      let here : get_or u (k + 1) [] ≡ upto (aimed turn (net l)) L (get_or t k []) i = ap (λ (s : List (List ℕ)). get_or s (k + 1) []) e ∙ get_or-set_same t (k + 1) _ [] h in
      ap (set u (k + 1)) (upto-kept turn l L (get_or t k []) (get_or u (k + 1) []) i j x y r here b c d (rw row-still at f))
      ∙ ap (λ (s : List (List ℕ)). set s (k + 1) (upto (aimed turn (net l)) L (get_or t k []) (i + 1))) e
      ∙ set-set t (k + 1) _ _

module _ (g : Net) (L z : List ℕ) (t : List (List ℕ)) where
  pub rounds-first : get_or t 0 [] ≡ z → (k : ℕ) → k ≤ 0 → Rounds g L z k t
  unfolding rows
  rounds-first e k l = record { row = λ i h. let q : i ≡ 0 = omega arith in rw q e }

  -- a turn of the rounds' loop: a round from row k is round k + 1
  pub rounds-more : (k : ℕ) → Rounds g L z k t → k + 1 < length t → (u : List (List ℕ)) → u ≡ set t (k + 1) (round g L (get_or t k [])) → Rounds g L z (k + 1) u
  rounds-more k h l u e = record { row = λ i b. ap (λ (s : List (List ℕ)). get_or s i []) e ∙ go i b (dec_le i k) }
    where
      r : List ℕ
      r = round g L (get_or t k [])

      next : r ≡ rows g L z (suc k)
      next = unfold rows in ap (λ (s : List ℕ). round g L s) (h.row k (omega arith))

      go : (i : ℕ) → i ≤ k + 1 → Dec (i ≤ k) → get_or (set t (k + 1) r) i [] ≡ rows g L z i
      go i b (yes c) = get_or-set_other t (k + 1) i r [] (omega arith) ∙ h.row i c
      go i b (no c) = let q : i ≡ k + 1 = omega arith in rw q (get_or-set_same t (k + 1) r [] l ∙ next ∙ ap (λ (m : ℕ). rows g L z m) (sym (add-one k)))

  -- the last row is that of the last round
  pub last-row : (k : ℕ) → Rounds g L z (k + 1) t → get_or t (k + 1) [] ≡ rows g L z (suc k)
  last-row k h = h.row (k + 1) (omega arith) ∙ ap (λ (m : ℕ). rows g L z m) (add-one k)

  -- the rounds may end after one that changed no time, since all that follow it leave the times as they are
  pub ended-still : (n k : ℕ) → k < n → rows g L z (suc k) ≡ rows g L z k → Rounds g L z (k + 1) t → Moving g L z k → Ended g L z n (k + 1) t
  ended-still n k l e h c =
      let same : (m i : ℕ) → k ≤ m → k ≤ i → rows g L z m ≡ rows g L z i = λ m i a b. same_after g L z k e m a ∙ sym (same_after g L z k e i b) in
      record {
        some = omega arith;
        most = omega arith;
        rounds = h;
        moving = record { each = λ i m. c.each i (omega arith) };
        before = same (k + 1 - 1) (n - 1) (omega arith) (omega arith);
        last = same (k + 1) n (omega arith) (omega arith);
      }

  -- no row of w rounds at the most lies more than w times the bias above the start
  pub rounds-small : (w m : ℕ) → Within g L w → w ≤ length z → ((v : ℕ) → at z v ≤ m) → (n k : ℕ) → Rounds g L z n t → k ≤ n → n ≤ w → (v : ℕ) → at (get_or t k []) v ≤ m + w * bias
  rounds-small w m b long u n k h l q v = rw (h.row k l) (omega (arith, rows-bounded g L w b z long m u k v))

-- a store in a row leaves the rows after it
pub stays-stored : (s t u : List (List ℕ)) (r : List ℕ) (k m : ℕ) → k ≤ m → u ≡ set t m r → Stays k s t → Stays m s u
stays-stored s t u r k m l e h = record { same = λ i b. ap (λ (v : List (List ℕ)). get_or v i []) e ∙ get_or-set_other t m i r [] (omega arith) ∙ h.same i (omega arith) }

-- rows that stay from a store before them on stay from before it on
pub stays-since : (s t : List (List ℕ)) (r : List ℕ) (m k : ℕ) → m ≤ k → Stays k (set s m r) t → Stays k s t
stays-since s t r m k l h = record { same = λ i b. h.same i b ∙ get_or-set_other s m i r [] (omega arith) }

-- one round more that changes a time
pub moving-more : (g : Net) (L z : List ℕ) (k : ℕ) → Moving g L z k → (rows g L z (suc k) ≡ rows g L z k → ⊥) → Moving g L z (k + 1)
moving-more g L z k m h = record { each = below_more _ _ m.each h }

-- whether round k + 1 changed a time, by the first of n events that rose in it
module _ (g : Net) (L z : List ℕ) (n k : ℕ) (s r : List ℕ) (p : s ≡ rows g L z k) (q : r ≡ rows g L z (suc k)) where
  pub some-changed : (first : Option ℕ) → Rising n s r first → IsSome first → rows g L z (suc k) ≡ rows g L z k → ⊥
  some-changed (Some v) h _ e = omega (arith, h.rises.1, ap (λ (t : List ℕ). at t v) (p ∙ sym e ∙ sym q))
  some-changed None h f e = false≢true f

  pub none-changed : (first : Option ℕ) → Rising n s r first → IsNone first → Within g L n → n ≤ length z → rows g L z (suc k) ≡ rows g L z k
  none-changed first h f b long = none-rose g L n b z long k (λ u m. rw (p, q) at (h.none f u m))

-- where some of n rounds were left out, the last that was made changed no time: no round lowers one, and the times before round n are those before it
pub left_out : (g : Net) (L : List ℕ) (n : ℕ) → Within g L n → (z : List ℕ) → n ≤ length z → (k : ℕ) (t : List (List ℕ)) → Ended g L z n k t → k < n → rows g L z (suc (k - 1)) ≡ rows g L z (k - 1)
left_out g L n b z long k t h l =
    none-rose g L n b z long (k - 1) (λ u _.
    let e : suc (k - 1) + (n - 1 - k) ≡ n - 1 = omega (arith, h.some) in
    omega (arith, rows-mono g L n b z long (suc (k - 1)) (n - 1 - k) u, ap (λ (i : ℕ). at (rows g L z i) u) e, ap (λ (s : List ℕ). at s u) h.before))
