-- The shortest reason of two facts: where the facts but the newest have a timetable, and the newest leads from an event to another, no reason has one fact, and one of two is the newest and a fact that leads back. Assumes nothing.
use mathlib.Core.Path.{◌≡◌, refl, sym, ap, ◌∙◌, subst}
use mathlib.Core.Bool.{true, false}
use mathlib.Core.Logic.{◌⊎◌, inl, inr}
use mathlib.Core.List.{List, [], ◌∷◌, ◌++◌, map}
use Prim.Native.Nat.{ℕ, ◌≤◌, ◌<◌, min, max}
use native.Mathlib.Omega.{arith}
use native.Mathlib.Decide.{dec_lt}
use lib.ListN.{length, drop, set, replicate, length-append}
use Rattle.meaning.specs.Limits.{row_bytes, blank_byte}
use Rattle.meaning.specs.Plain.{◌≺◌}
use Rattle.meaning.specs.Decision.{sound}
use Rattle.meaning.specs.Search.{cycle}
use Rattle.meaning.specs.Shortest.{Shortest}
use Rattle.meaning.specs.Listing.{padded, row_of}
use Rattle.meaning.proofs.Reasoning.{shortest-one}
use Rattle.problem.specs.Arcs.{Net, head, tail, at, arc}
use Rattle.facts.specs.Tests.{IsFact}
use Rattle.shortest.specs.Paths.{Path, sum, From}
use Rattle.shortest.specs.Pairs.{Returns}
use Rattle.shortest.proofs.Bytes.{padded-two}
use Rattle.shortest.proofs.Naming.{arcs-numbered, from-loops, loops-from}
use Rattle.shortest.proofs.Newest.{passes}

module _ (g : Net) (L : List ℕ) (old : sound (map (arc g) (drop 1 L)) ≡ true) where
  abbrev pub newest : ℕ
  newest = at L 0

  -- a closed row passes through the newest fact
  abbrev pub Through : ℕ → List ℕ → Type 0
  Through t l = (b : List ℕ) × (c : List ℕ) × (l ≡ b ++ (newest ∷ c)) × Path g L t b (tail g newest) × Path g L (head g newest) c t

  pub through : (t : ℕ) (l : List ℕ) → From g L t l → Through t l
  through t l f =
      let q = passes g L 1 old t l f in
      let e : q.place ≡ 0 = omega (arith, q.new) in
      subst (λ (i : ℕ). (b : List ℕ) × (c : List ℕ) × (l ≡ b ++ (at L i ∷ c)) × Path g L t b (tail g (at L i)) × Path g L (head g (at L i)) c t) e (q.before, q.after, q.row, q.to, q.on)

  module _ (apart : head g newest ≡ tail g newest → ⊥) where
    -- one of a single fact would be the newest, which does not close
    two-at-least : (t : ℕ) (l : List ℕ) → From g L t l → 2 ≤ length l
    two-at-least t l f = go (through t l f)
      where
        go : Through t l → 2 ≤ length l
        go ([], [], e, p, q) = absurd (apart (q ∙ p))
        go ([], j ∷ c, e, p, q) = omega (arith, ap length e)
        go (i ∷ b, c, e, p, q) = omega (arith, ap length e, length-append b (newest ∷ c))

    -- one of two facts is the newest and a fact that leads back, in one order or the other
    of-two : (t : ℕ) (l : List ℕ) → From g L t l → length l ≡ 2 → (j : ℕ) × Returns g L newest j × ((l ≡ newest ∷ j ∷ []) ⊎ (l ≡ j ∷ newest ∷ []))
    of-two t l f s = go (through t l f)
      where
        go : Through t l → (j : ℕ) × Returns g L newest j × ((l ≡ newest ∷ j ∷ []) ⊎ (l ≡ j ∷ newest ∷ []))
        go ([], [], e, p, q) = absurd (omega (arith, ap length e))
        go ([], j ∷ [], e, p, (i, q, r)) =
            (j, record { fact = i; leads = record { from = q; to = r ∙ p; negative = omega (arith, f.negative, ap (sum g) e) } }, inl e)
        go ([], i ∷ j ∷ c, e, p, q) = absurd (omega (arith, ap length e))
        go (j ∷ [], [], e, (i, q, r), p) =
            (j, record { fact = i; leads = record { from = q ∙ sym p; to = r; negative = omega (arith, f.negative, ap (sum g) e) } }, inr e)
        go (j ∷ [], i ∷ c, e, p, q) = absurd (omega (arith, ap length e))
        go (i ∷ j ∷ b, c, e, p, q) = absurd (omega (arith, ap length e, length-append b (newest ∷ c)))

    -- ---- the pair
    module _ (back : ℕ) (here : IsFact L newest) (r : Returns g L newest back) (least : (j : ℕ) → Returns g L newest j → back ≤ j) where
      -- the newest fact and that one, the smaller number first
      abbrev Pair : List ℕ → Type 0
      Pair l = ((l ≡ newest ∷ back ∷ []) × (newest < back)) ⊎ ((l ≡ back ∷ newest ∷ []) × (back < newest))

      -- they are a closed row, read from either
      closed : (l : List ℕ) → Pair l → (t : ℕ) × From g L t l
      closed l (inl (e, h)) =
          (tail g newest, subst (From g L (tail g newest)) (sym e) (record { path = (here, refl, (r.fact, r.leads.from, r.leads.to)); negative = omega (arith, r.leads.negative) }))
      closed l (inr (e, h)) =
          (head g newest, subst (From g L (head g newest)) (sym e) (record { path = (r.fact, r.leads.from, (here, sym r.leads.to, refl)); negative = omega (arith, r.leads.negative) }))

      -- with a larger number in place of `back` no order of the two comes before
      first : (m l : List ℕ) (j : ℕ) → back ≤ j → (m ≡ newest ∷ j ∷ []) ⊎ (m ≡ j ∷ newest ∷ []) → Pair l → m ≺ l → ⊥
      first m l j h d p o = go d p
        where
          before : (i k : ℕ) (i' k' : ℕ) → m ≡ i ∷ k ∷ [] → l ≡ i' ∷ k' ∷ [] → (i < i') ⊎ ((i ≡ i') × ((k < k') ⊎ ((k ≡ k') × ⊥)))
          before i k i' k' e f = rw e at (rw f at o)

          go : (m ≡ newest ∷ j ∷ []) ⊎ (m ≡ j ∷ newest ∷ []) → Pair l → ⊥
          go (inl e) (inl (f, k)) = omega (arith, before newest j newest back e f)
          go (inl e) (inr (f, k)) = omega (arith, before newest j back newest e f)
          go (inr e) (inl (f, k)) = omega (arith, before j newest newest back e f)
          go (inr e) (inr (f, k)) = omega (arith, before j newest back newest e f)

      -- the key: the newest fact and the smallest-numbered that leads back, the smaller number first, are a shortest reason.
      -- Each closed row below 0 passes through the newest fact. That alone does not close, as it leads from one event to another; so no row has fewer than two.
      -- One of two is the newest and some fact that leads back, of no smaller number, so in neither order does it come before.
      pair-shortest : (l : List ℕ) → Pair l → Shortest (map (arc g) L) l
      pair-shortest l p =
          let (v, f) = closed l p in
          let two : length l ≡ 2 = long p in
          record {
            closed = from-loops g L v l f;
            fewest = λ m t. let (u, k) = loops-from g L m t in omega (arith, two-at-least u m k);
            first = λ m t e. let (u, k) = loops-from g L m t in let (j, d, o) = of-two u m k (e ∙ two) in first m l j (least j d) o p;
          }
        where
          long : Pair l → length l ≡ 2
          long (inl (e, h)) = ap length e
          long (inr (e, h)) = ap length e

      -- there is only one, so the row of the two is its row
      pub pair-names : sound (map (arc g) L) ≡ false → (x y : ℕ) → x ≡ min newest back → y ≡ max newest back → set (set (replicate row_bytes blank_byte) 0 x) 1 y ≡ row_of row_bytes (cycle (map (arc g) L))
      unfolding row_of
      pair-names e x y a b =
          padded-two row_bytes x y (omega arith)
          ∙ ap (padded row_bytes) (shortest-one (arc g) (map (arc g) L) (arcs-numbered g L) e (x ∷ y ∷ []) (pair-shortest (x ∷ y ∷ []) (go (dec_lt newest back))))
        where
          differ : newest ≡ back → ⊥
          differ d = apart (sym r.leads.from ∙ ap (λ (j : ℕ). tail g j) (sym d))

          go : Dec (newest < back) → Pair (x ∷ y ∷ [])
          go (yes h) = let c : x ≡ newest = omega arith in let d : y ≡ back = omega arith in inl (rw (c, d) refl, h)
          go (no h) = let k : back < newest = omega (arith, h, differ) in let c : x ≡ back = omega arith in let d : y ≡ newest = omega arith in inr (rw (c, d) refl, k)
