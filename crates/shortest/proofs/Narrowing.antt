-- Facts may be left out beside a newest one where no closed row below 0 passes through both: the rest with the newest have the same shortest reason. Assumes nothing.
use mathlib.Core.Path.{◌≡◌, refl, sym, ap, ◌∙◌, subst}
use mathlib.Core.Bool.{true, false}
use mathlib.Core.Logic.{◌⊎◌, inl, inr}
use mathlib.Core.List.{List, [], ◌∷◌, ◌++◌, map}
use Prim.Native.Nat.{ℕ, zero, suc, ◌+◌, ◌*◌, ◌≤◌, ◌<◌}
use native.Mathlib.Omega.{arith}
use native.Mathlib.Decide.{dec_lt}
use lib.Dec.{T}
use lib.ListN.{length, length-append}
use Rattle.laws.proofs.Tests.{is_false}
use Rattle.meaning.specs.Limits.{row_bytes}
use Rattle.meaning.specs.Problem.{Alternative}
use Rattle.meaning.specs.Decision.{least, reach, sound}
use Rattle.meaning.specs.Search.{cycle}
use Rattle.meaning.specs.Reasons.{loops}
use Rattle.meaning.specs.Shortest.{Shortest, shortest}
use Rattle.meaning.specs.Listing.{padded, row_of}
use Rattle.meaning.proofs.Deciding.{reach-in, sound-decides, least-met}
use Rattle.meaning.proofs.Cycle.{loops-none}
use Rattle.meaning.proofs.Reasoning.{shortest-is, shortest-one}
use Rattle.problem.specs.Arcs.{Net, head, tail, bound, bias, at, arc, Arc}
use Rattle.facts.specs.Tests.{Within, IsFact}
use Rattle.facts.specs.Rounds.{Kept, Holds}
use Rattle.facts.proofs.Joining.{meets-holds, holds-sound}
use Rattle.shortest.specs.Paths.{Path, sum, From}
use Rattle.shortest.specs.Narrowing.{NoneThrough, Narrows}
use Rattle.shortest.proofs.Reaching.{sum-append, path_join, path-part}
use Rattle.shortest.proofs.Naming.{arcs-numbered, from-loops, loops-from}
use Rattle.shortest.proofs.Pairing.{through}

-- ---- facts and rows
-- each place of a list holds a fact
held : (L : List ℕ) (i : ℕ) → i < length L → IsFact L (at L i)
held L i h = record { place = i; below = h; same = refl }

-- one fact more, and what it adds
fact-more : (a : ℕ) (R : List ℕ) (j : ℕ) → IsFact R j → IsFact (a ∷ R) j
fact-more a R j f = record { place = suc f.place; below = omega (arith, f.below); same = f.same }

newest-or-old : (a : ℕ) (R : List ℕ) (j : ℕ) → IsFact (a ∷ R) j → (j ≡ a) ⊎ IsFact R j
newest-or-old a R j f = go f.place f.below f.same
  where
    go : (i : ℕ) → i < length (a ∷ R) → at (a ∷ R) i ≡ j → (j ≡ a) ⊎ IsFact R j
    go zero l e = inl (sym e)
    go (suc i) l e = inr (record { place = i; below = omega arith; same = e })

-- a row of facts is one of more facts
path-more : (g : Net) (L M : List ℕ) → ((j : ℕ) → IsFact L j → IsFact M j) → (l : List ℕ) (u v : ℕ) → Path g L u l v → Path g M u l v
path-more g L M h [] u v e = e
path-more g L M h (j ∷ l) u v (f, e, p) = (h j f, e, path-more g L M h l (head g j) v p)

-- what bounds facts bounds some of them, and times that keep facts keep some of them
within-some : (g : Net) (L M : List ℕ) (n : ℕ) → ((j : ℕ) → IsFact M j → IsFact L j) → Within g L n → Within g M n
within-some g L M n h w =
    record {
      known = record { each = λ i l. let f = h (at M i) (held M i l) in subst (Arc g n) f.same (w.known.each f.place f.below) };
      few = w.few;
    }

holds-some : (g : Net) (L M : List ℕ) (s : ℕ → ℕ) → ((j : ℕ) → IsFact M j → IsFact L j) → Holds g L s → Holds g M s
holds-some g L M s h k = record { each = λ i l. let f = h (at M i) (held M i l) in subst (Kept g s) f.same (k.each f.place f.below) }

-- the front of a row is of the facts of the whole
path-front : (g : Net) (L M a b : List ℕ) (u v w : ℕ) → Path g L u a v → Path g M u (a ++ b) w → Path g M u a v
path-front g L M [] b u v w p q = p
path-front g L M (j ∷ a) b u v w (f, e, p) (f', e', q) = (f', e, path-front g L M a b (head g j) v w p q)

module _ (g : Net) (a : ℕ) (R : List ℕ) where
  -- a row from u to v passes through the newest fact
  abbrev Met : List ℕ → ℕ → ℕ → Type 0
  Met m u v = (b : List ℕ) × (c : List ℕ) × (m ≡ b ++ (a ∷ c)) × Path g (a ∷ R) u b (tail g a) × Path g (a ∷ R) (head g a) c v

  -- if it does not, it is a row of the others
  old-or-met : (m : List ℕ) (u v : ℕ) → Path g (a ∷ R) u m v → Path g R u m v ⊎ Met m u v
  old-or-met [] u v e = inl e
  old-or-met (j ∷ m) u v (f, e, p) = go (newest-or-old a R j f) (old-or-met m (head g j) v p)
    where
      go : (j ≡ a) ⊎ IsFact R j → Path g R (head g j) m v ⊎ Met m (head g j) v → Path g R u (j ∷ m) v ⊎ Met (j ∷ m) u v
      go (inl h) r = inr ([], m, ap (λ (k : ℕ). k ∷ m) h, sym e ∙ ap (λ (k : ℕ). tail g k) h, subst (λ (k : ℕ). Path g (a ∷ R) (head g k) m v) h p)
      go (inr i) (inl q) = inl (i, e, q)
      go (inr i) (inr (b, c, d, x, y)) = inr (j ∷ b, c, ap (λ (k : List ℕ). j ∷ k) d, (f, e, x), y)

  -- the newest fact and a row from its head back to its tail
  round-newest : (m : List ℕ) → Path g (a ∷ R) (head g a) m (tail g a) → bound g a + sum g m < (length m + 1) * bias → From g (a ∷ R) (tail g a) (a ∷ m)
  round-newest m p h = record { path = (held (a ∷ R) 0 (omega arith), refl, p); negative = omega arith }

  -- the key: where no closed row below 0 has fewer facts, the row back is one of the others alone.
  -- If it came through the newest fact again, the whole would be two closed rows from that one's tail, each of fewer facts; and one of the two would have a sum below 0, as the two together have.
  once : (m : List ℕ) → Path g (a ∷ R) (head g a) m (tail g a) → bound g a + sum g m < (length m + 1) * bias → ((v : ℕ) (l : List ℕ) → From g (a ∷ R) v l → length m + 1 ≤ length l) → Path g R (head g a) m (tail g a)
  once m p h few = go (old-or-met m (head g a) (tail g a) p)
    where
      go : Path g R (head g a) m (tail g a) ⊎ Met m (head g a) (tail g a) → Path g R (head g a) m (tail g a)
      go (inl q) = q
      go (inr (b, c, e, x, y)) = absurd (part (dec_lt (bound g a + sum g b) ((length b + 1) * bias)))
        where
          size : length m ≡ length b + (length c + 1)
          size = omega (arith, ap length e, length-append b (a ∷ c))

          part : Dec (bound g a + sum g b < (length b + 1) * bias) → ⊥
          part (yes k) = let f = few (tail g a) (a ∷ b) (round-newest b x k) in omega (arith, size)
          part (no k) =
              let f = few (tail g a) (a ∷ c) (round-newest c y (omega (arith, h, k, size, ap (sum g) e, sum-append g b (a ∷ c)))) in
              omega (arith, size)

module _ (g : Net) (a : ℕ) (R K : List ℕ) (k : Narrows g a R K) where
  -- the key: a row of the others that closes with the newest fact below 0 is one of the kept facts. Here l is its part so far, and m what is left.
  -- Each fact of it has a row from the newest fact before it and one back to the newest after it, and the whole has a sum below 0; so it is none of those left out.
  kept-back : (l m : List ℕ) (u : ℕ) → Path g R (head g a) l u → Path g R u m (tail g a) → bound g a + (sum g l + sum g m) < (length l + length m + 1) * bias → Path g K u m (tail g a)
  kept-back l [] u p q h = q
  kept-back l (j ∷ m) u p (f, e, q) h = go (k.kept j f) (kept-back (l ++ (j ∷ [])) m (head g j) (path_join g R l (j ∷ []) (head g a) u (head g j) p (f, e, refl)) q (omega (arith, h, sum-append g l (j ∷ []), length-append l (j ∷ []))))
    where
      go : IsFact K j ⊎ NoneThrough g a R j → Path g K (head g j) m (tail g a) → Path g K u (j ∷ m) (tail g a)
      go (inl i) r = (i, e, r)
      go (inr n) r = absurd (omega (arith, h, n.none l m (subst (λ (x : ℕ). Path g R (head g a) l x) (sym e) p) q))

  -- the newest fact and the kept ones are facts of all
  all : (j : ℕ) → IsFact (a ∷ K) j → IsFact (a ∷ R) j
  all j f = go (newest-or-old a K j f)
    where
      go : (j ≡ a) ⊎ IsFact K j → IsFact (a ∷ R) j
      go (inl e) = rw e (held (a ∷ R) 0 (omega arith))
      go (inr i) = fact-more a R j (k.known j i)

  pub narrow-within : (n : ℕ) → Within g (a ∷ R) n → Within g (a ∷ K) n
  narrow-within n w = within-some g (a ∷ R) (a ∷ K) n all w

  module _ (old : sound (map (arc g) R) ≡ true) where
    -- a timetable of the old facts is one of those that are kept
    pub narrow-old : (n : ℕ) → Within g (a ∷ R) n → sound (map (arc g) K) ≡ true
    narrow-old n w =
        let fs : List Alternative = map (arc g) R in
        let m = least-met (reach fs) fs (reach-in fs) (sound-decides.right fs (subst T (sym old) tt)) in
        holds-sound g K n (within-some g (a ∷ R) K n (λ j i. fact-more a R j (k.known j i)) w) (at (least (reach fs) fs)) (holds-some g R K (at (least (reach fs) fs)) k.known (meets-holds g R (at (least (reach fs) fs)) m))

    -- ---- the shortest reason
    module _ (new : sound (map (arc g) (a ∷ R)) ≡ false) where
      abbrev reason : List ℕ
      reason = shortest (map (arc g) (a ∷ R))

      whole : Shortest (map (arc g) (a ∷ R)) reason
      whole = shortest-is (arc g) (map (arc g) (a ∷ R)) (arcs-numbered g (a ∷ R)) new

      -- a closed walk over the kept facts is one over all
      more-loops : (l : List ℕ) → T (loops (map (arc g) (a ∷ K)) l) → T (loops (map (arc g) (a ∷ R)) l)
      more-loops l t =
          let (v, f) = loops-from g (a ∷ K) l t in
          from-loops g (a ∷ R) v l (record { path = path-more g (a ∷ K) (a ∷ R) all l v v f.path; negative = f.negative })

      -- the shortest reason of all is a closed row of the newest fact and the kept ones: it passes through the newest, and read from there it leads back by the others alone, so by the kept ones
      kept-from : (v : ℕ) × From g (a ∷ K) v reason
      kept-from =
          let (v, f) = loops-from g (a ∷ R) reason whole.closed in
          let (b, c, e, p, q) = through g (a ∷ R) old v reason f in
          let size : length reason ≡ length (c ++ b) + 1 = omega (arith, ap length e, length-append b (a ∷ c), length-append c b) in
          let low : bound g a + sum g (c ++ b) < (length (c ++ b) + 1) * bias = omega (arith, f.negative, size, ap (sum g) e, sum-append g b (a ∷ c), sum-append g c b) in
          let r = once g a R (c ++ b) (path_join g (a ∷ R) c b (head g a) v (tail g a) q p) low (λ u l d. omega (arith, size, whole.fewest l (from-loops g (a ∷ R) u l d))) in
          let s = kept-back [] (c ++ b) (head g a) refl r (omega (arith, low)) in
          let there = path-front g (a ∷ R) K c b (head g a) v (tail g a) q s in
          let back = path-part g K c b (head g a) v (tail g a) there s in (
            v,
            record {
              path =
                  subst (λ (l : List ℕ). Path g (a ∷ K) v l v) (sym e)
                  (path_join g (a ∷ K) b (a ∷ c) v (tail g a) v (path-more g K (a ∷ K) (fact-more a K) b v (tail g a) back) (held (a ∷ K) 0 (omega arith), refl, path-more g K (a ∷ K) (fact-more a K) c (head g a) v there));
              negative = f.negative;
            },
          )

      -- none over the kept facts has fewer or comes before, since each is one over all
      kept-shortest : Shortest (map (arc g) (a ∷ K)) reason
      kept-shortest =
          record {
            closed = let (v, f) = kept-from in from-loops g (a ∷ K) v reason f;
            fewest = λ l t. whole.fewest l (more-loops l t);
            first = λ l t. whole.first l (more-loops l t);
          }

      pub narrow-new : sound (map (arc g) (a ∷ K)) ≡ false
      narrow-new = is_false _ (λ y. let (t, s) = sound-decides.right (map (arc g) (a ∷ K)) y in loops-none t (map (arc g) (a ∷ K)) reason kept-shortest.closed s)

      -- there is only one, so the two are the same
      pub narrow-reason : shortest (map (arc g) (a ∷ K)) ≡ shortest (map (arc g) (a ∷ R))
      narrow-reason = sym (shortest-one (arc g) (map (arc g) (a ∷ K)) (arcs-numbered g (a ∷ K)) narrow-new reason kept-shortest)

      pub narrow-row : row_of row_bytes (cycle (map (arc g) (a ∷ K))) ≡ row_of row_bytes (cycle (map (arc g) (a ∷ R)))
      unfolding row_of
      narrow-row = ap (padded row_bytes) narrow-reason
