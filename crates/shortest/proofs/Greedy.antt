-- The smallest number at each step gives the first row: a front that can still be closed, with no closed row before it, is led on by the smallest fact from which a closed row is in reach.
-- Assumes nothing.
use mathlib.Core.Path.{◌≡◌, refl, sym, ap, ◌∙◌, subst}
use mathlib.Core.Logic.{◌⊎◌, inl, inr}
use mathlib.Core.List.{List, [], ◌∷◌, ◌++◌}
use Prim.Native.Nat.{ℕ, suc, ◌+◌, ◌*◌, ◌-◌, ◌≤◌, ◌<◌}
use native.Mathlib.Omega.{arith}
use native.Mathlib.Decide.{ℕ_discrete}
use lib.ListN.{length, length-append}
use Rattle.std.proofs.Common.{Option, Some, None, IsSome}
use Rattle.meaning.specs.Limits.{most_events}
use Rattle.meaning.specs.Plain.{◌≺◌}
use Rattle.meaning.proofs.Dictionary.{before-none, before-one-more}
use Rattle.problem.specs.Arcs.{Net, head, tail, bound, bias}
use Rattle.facts.specs.Tests.{Within, IsFact}
use Rattle.facts.specs.Rounds.{rows}
use Rattle.shortest.specs.Paths.{Path, sum, From, FirstFrom}
use Rattle.shortest.specs.Heights.{turned, highest, start, height}
use Rattle.shortest.specs.Leading.{Fits, Picks}
use Rattle.shortest.proofs.Reaching.{Reached, sum-append, path_join, path-part, target-height, other-height, none-higher, some-as-high}

-- the front p of a row of `size` facts from t: it leads to u, what is left of it needs a height above `need`, and no closed row of that size comes before it
pub record Led (g : Net) (L : List ℕ) (t size : ℕ) (p : List ℕ) (u need : ℕ) : Type 0 where
  pub most : length p ≤ size
  pub path : Path g L t p u
  pub exact : need + length p * bias ≡ highest + sum g p
  pub open-end : need < height g L t (size - length p) u
  pub first : (m : List ℕ) → From g L t m → length m ≡ size → m ≺ p → ⊥

-- a front with one fact more
path-more : (g : Net) (L p : List ℕ) (j u v : ℕ) → Path g L u p v → IsFact L j → tail g j ≡ v → Path g L u (p ++ (j ∷ [])) (head g j)
path-more g L p j u v h f e = path_join g L p (j ∷ []) u v (head g j) h (f, e, refl)

module _ (g : Net) (L : List ℕ) (w : Within (turned g) L most_events) (t : ℕ) (b : t < most_events) (size : ℕ) (most : size ≤ most_events) (fewest : (m : List ℕ) → From g L t m → size ≤ length m) where
  pub led-start : highest < height g L t size t → Led g L t size [] t highest
  led-start h =
      let e : size - 0 ≡ size = omega arith in
      record { most = omega arith; path = refl; exact = omega arith; open-end = rw e h; first = λ m f e b. before-none m b }

  module _ (p : List ℕ) (u need : ℕ) (d : Led g L t size p u need) where
    -- the facts that close the front
    abbrev Closing : List ℕ → Type 0
    Closing m = Path g L u m t × (length p + length m ≡ size) × (height g L t (size - length p) u + sum g m ≡ highest + length m * bias)

    -- there are some: what is needed is more than any other start leads to, so the height comes from a row to t; and that has as many facts as are left, since no closed row has fewer than `size`
    closing-row : (m : List ℕ) × Closing m
    closing-row = go (some-as-high g L w t b (size - length p) u)
      where
        go : Reached g L t (size - length p) u → (m : List ℕ) × Closing m
        go (inl h) = absurd (omega (arith, d.exact, d.open-end, d.most))
        go (inr (m, q, l, e)) =
            let c : From g L t (p ++ m) = record { path = path_join g L p m t u t d.path q; negative = omega (arith, d.exact, d.open-end, sum-append g p m, length-append p m) } in
            (m, (q, omega (arith, fewest (p ++ m) c, length-append p m, d.most), e))

    -- the front at its end is a closed row: only the target is high without a round
    pub led-end : length p ≡ size → FirstFrom g L t p
    led-end e = go (ℕ_discrete u t)
      where
        last : need < height g L t 0 u
        last = let f : size - length p ≡ 0 = omega arith in rw f at d.open-end

        go : Dec (u ≡ t) → FirstFrom g L t p
        go (no h) = absurd (omega (arith, last, other-height g L t u h))
        go (yes h) =
            record {
              closed = record { path = subst (λ (x : ℕ). Path g L t p x) h d.path; negative = omega (arith, last, ap (λ (x : ℕ). height g L t 0 x) h, target-height g L t b, d.exact) };
              fewest = λ m f. omega (arith, fewest m f);
              first = λ m f q. d.first m f (q ∙ e);
            }

    module _ (r : ℕ) (left : size - length p ≡ suc r) where
      -- some fact leads on: the first of those that close the front
      some_fits : (j : ℕ) × Fits g L (rows (turned g) L (start t) r) u need j
      some_fits = go closing-row
        where
          go : ((m : List ℕ) × Closing m) → (j : ℕ) × Fits g L (rows (turned g) L (start t) r) u need j
          go ([], (q, l, e)) = absurd (omega arith)
          go (j ∷ m, ((f, a, q), l, e)) =
              (j, record { fact = f; leads = record { from = a; enough = omega (arith, d.open-end, none-higher g L w t b m r (head g j) q (omega arith)) } })

      -- every closed row of this size that starts with the front goes on with a fact that fits
      goes_on : (x : ℕ) (m : List ℕ) → From g L t (p ++ (x ∷ m)) → length (p ++ (x ∷ m)) ≡ size → Fits g L (rows (turned g) L (start t) r) u need x
      goes_on x m f e = go (path-part g L p (x ∷ m) t u t d.path f.path)
        where
          go : Path g L u (x ∷ m) t → Fits g L (rows (turned g) L (start t) r) u need x
          go (c, a, q) =
              record {
                fact = c;
                leads =
                    record {
                      from = a;
                      enough = omega (arith, none-higher g L w t b m r (head g x) q (omega (arith, e, length-append p (x ∷ m), left, d.most)), f.negative, sum-append g p (x ∷ m), length-append p (x ∷ m), d.exact);
                    };
              }

      -- so there is a smallest
      pub some-picked : (pick : Option ℕ) → Picks g L (rows (turned g) L (start t) r) u need pick → IsSome pick
      some-picked (Some j) k = refl
      some-picked None k = let (i, f) = some_fits in absurd (k.least i f)

      module _ (j : ℕ) (k : Picks g L (rows (turned g) L (start t) r) u need (Some j)) where
        pub picked : Fits g L (rows (turned g) L (start t) r) u need j
        picked = k.some

        -- what is needed after j
        pub need-more : bias ≤ need + bound g j
        need-more = omega (arith, d.exact, d.most, left)

        -- a closed row before the front and j is before the front, or goes on from it with a smaller number: that would fit, and j is the smallest that does
        none_before : (m : List ℕ) → From g L t m → length m ≡ size → m ≺ (p ++ (j ∷ [])) → ⊥
        none_before m f e a = go (before-one-more p j m a)
          where
            go : (m ≺ p) ⊎ ((x : ℕ) × (r : List ℕ) × (m ≡ p ++ (x ∷ r)) × (x < j)) → ⊥
            go (inl h) = d.first m f e h
            go (inr (x, l, q, h)) =
                let c = goes_on x l (subst (From g L t) q f) (sym (ap length q) ∙ e) in
                omega (arith, k.least x c)

        pub led-more : Led g L t size (p ++ (j ∷ [])) (head g j) (need + bound g j - bias)
        led-more =
            record {
              most = omega (arith, length-append p (j ∷ []), left, d.most);
              path = path-more g L p j t u d.path picked.fact picked.leads.from;
              exact = omega (arith, length-append p (j ∷ []), sum-append g p (j ∷ []), need-more, d.exact);
              open-end = let e : size - length (p ++ (j ∷ [])) ≡ r = omega (arith, length-append p (j ∷ []), left, d.most) in rw e (omega (arith, need-more, picked.leads.enough));
              first = none_before;
            }
