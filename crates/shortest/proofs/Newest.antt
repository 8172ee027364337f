-- Every closed row of sum below 0 passes through one of the newest facts, where the older ones have a timetable; so the rows from the tails of these few tell how many facts such a row has at the least. Assumes nothing.
use mathlib.Core.Path.{◌≡◌, refl, sym, ap, ◌∙◌, subst}
use mathlib.Core.Bool.{true, false}
use mathlib.Core.Logic.{◌⊎◌, inl, inr}
use mathlib.Core.List.{List, [], ◌∷◌, ◌++◌, map}
use Prim.Native.Nat.{ℕ, ◌+◌, ◌*◌, ◌-◌, ◌≤◌, ◌<◌}
use native.Mathlib.Omega.{arith}
use native.Mathlib.Decide.{dec_lt}
use lib.Dec.{T}
use lib.ListN.{length, drop, length-append, length-drop}
use lib.Seq.{get_or-drop}
use borrow.Author.Count.{below_more}
use Rattle.std.specs.Option.{unwrap_or}
use Rattle.std.proofs.Common.{Option, Some, None}
use Rattle.meaning.specs.Limits.{most_events}
use Rattle.meaning.specs.Problem.{Alternative}
use Rattle.meaning.specs.Decision.{least, reach, sound}
use Rattle.meaning.proofs.Deciding.{reach-in, sound-decides, least-met}
use Rattle.problem.specs.Arcs.{Net, head, tail, bias, at, arc}
use Rattle.facts.specs.Tests.{Within, IsFact}
use Rattle.facts.specs.Rounds.{Kept, Holds}
use Rattle.facts.proofs.Joining.{meets-holds}
use Rattle.shortest.specs.Paths.{Path, sum, From, Sized, Fewest}
use Rattle.shortest.specs.Heights.{turned, Closes}
use Rattle.shortest.proofs.Reaching.{sum-append, path_join}
use Rattle.shortest.proofs.Targets.{closes-fewest, closes-some, closes-none}
use Rattle.shortest.proofs.Choosing.{from_some}
use Rattle.shortest.proofs.Naming.{some-few}

-- ---- the law
-- a row of facts from y to x passes through one of the first `news`
pub record Passes (g : Net) (L : List ℕ) (news y : ℕ) (l : List ℕ) (x : ℕ) : Type 0 where
  pub before : List ℕ
  pub place : ℕ
  pub new : place < news
  pub fact : IsFact L (at L place)
  pub after : List ℕ
  pub row : l ≡ before ++ (at L place ∷ after)
  pub to : Path g L y before (tail g (at L place))
  pub on : Path g L (head g (at L place)) after x

module _ (g : Net) (L : List ℕ) (news : ℕ) where
  -- times that keep the older facts
  module _ (s : ℕ → ℕ) (old : Holds g (drop news L) s) where
    kept : (j : ℕ) (f : IsFact L j) → (f.place < news → ⊥) → Kept g s j
    kept j f h =
        let e : news + (f.place - news) ≡ f.place = omega (arith, h) in
        subst (λ (k : ℕ). Kept g s k) (get_or-drop news L (f.place - news) 0 ∙ ap (λ (i : ℕ). at L i) e ∙ f.same) (old.each (f.place - news) (omega (arith, h, f.below, length-drop news L)))

    -- along a row of these they fall by no more than its sum
    falls-or-passes : (l : List ℕ) (y x : ℕ) → Path g L y l x → (s y + length l * bias ≤ s x + sum g l) ⊎ Passes g L news y l x
    falls-or-passes [] y x e = inl (rw e (omega arith))
    falls-or-passes (j ∷ l) y x (f, e, p) = go (dec_lt f.place news) (falls-or-passes l (head g j) x p)
      where
        go : Dec (f.place < news) → (s (head g j) + length l * bias ≤ s x + sum g l) ⊎ Passes g L news (head g j) l x → (s y + length (j ∷ l) * bias ≤ s x + sum g (j ∷ l)) ⊎ Passes g L news y (j ∷ l) x
        go (yes h) r =
            inr
            (record {
              before = [];
              place = f.place;
              new = h;
              fact = record { place = f.place; below = f.below; same = refl };
              after = l;
              row = ap (λ (k : ℕ). k ∷ l) (sym f.same);
              to = sym e ∙ ap (λ (k : ℕ). tail g k) (sym f.same);
              on = subst (λ (k : ℕ). Path g L (head g k) l x) (sym f.same) p;
            })
        go (no h) (inl k) = inl (rw (← e) (omega (arith, kept j f h)))
        go (no h) (inr q) = inr (record { before = j ∷ q.before; place = q.place; new = q.new; fact = q.fact; after = q.after; row = ap (λ (m : List ℕ). j ∷ m) q.row; to = (f, e, q.to); on = q.on })

  -- the key: a closed row of sum below 0 passes through one of the first facts, where those after them have a timetable.
  -- Along a row of the others alone, times that keep these fall by no more than its sum; going round one of sum below 0 they would fall below themselves. So it holds one of the first.
  pub passes : sound (map (arc g) (drop news L)) ≡ true → (t : ℕ) (l : List ℕ) → From g L t l → Passes g L news t l t
  passes e t l f = go (falls-or-passes s (meets-holds g (drop news L) s (least-met (reach fs) fs (reach-in fs) (sound-decides.right fs (subst T (sym e) tt)))) l t t f.path)
    where
      fs : List Alternative
      fs = map (arc g) (drop news L)

      s : ℕ → ℕ
      s = at (least (reach fs) fs)

      go : (s t + length l * bias ≤ s t + sum g l) ⊎ Passes g L news t l t → Passes g L news t l t
      go (inl h) = absurd (omega (arith, f.negative))
      go (inr q) = q

  -- read from there it is a closed row from that one's tail, of as many facts
  turned-to : (t : ℕ) (l : List ℕ) → From g L t l → (q : Passes g L news t l t) → Sized g L (tail g (at L q.place)) (length l)
  turned-to t l f q =
      let j = at L q.place in
      let a = length-append q.after q.before in
      let b = length-append q.before (j ∷ q.after) in
      let c = ap length q.row in
      record {
        list = j ∷ (q.after ++ q.before);
        closed =
            record {
              path = (q.fact, refl, path_join g L q.after q.before (head g j) t (tail g j) q.on q.to);
              negative = omega (arith, a, b, c, f.negative, sum-append g q.after q.before, sum-append g q.before (j ∷ q.after), ap (sum g) q.row);
            };
        long = omega (arith, a, b, c);
      }

  -- so none has fewer facts than some closed row from the tail of one of the first
  pub passes-new : sound (map (arc g) (drop news L)) ≡ true → (t : ℕ) (l : List ℕ) → From g L t l → (i : ℕ) × (i < news) × Sized g L (tail g (at L i)) (length l)
  passes-new e t l f = let q = passes e t l f in (q.place, q.new, turned-to t l f q)

-- ---- the fewest facts
-- of the closed rows from the tails of the first i facts: none has fewer than `size`, which is n + 1 where none has at most n
pub record FewestOf (g : Net) (L : List ℕ) (n i size : ℕ) : Type 0 where
  pub least : 1 ≤ size
  pub most : size ≤ n + 1
  pub none : (k : ℕ) → k < i → (m : List ℕ) → From g L (tail g (at L k)) m → size ≤ length m
  pub some : size ≤ n → (v : ℕ) × Sized g L v size

module _ (g : Net) (L : List ℕ) (n : ℕ) where
  -- one fact more: only rows of fewer are looked for
  pub fewest-more : (i size t most : ℕ) (tab : List (List ℕ)) → FewestOf g L n i size → n ≤ most_events → Within (turned g) L most_events → t < most_events → t ≡ tail g (at L i) → most + 1 ≡ size → (first : Option ℕ) → Closes g L t most first tab → FewestOf g L n (i + 1) (unwrap_or first size)
  fewest-more i size t most tab p wide w b e d (Some k) c =
      let f = closes-some g L t k tab w b c.some.1 (omega (arith, c.some.0, p.most)) in
      record {
        least = omega (arith, f.long, from_some g L t f.list f.closed);
        most = omega (arith, c.some.0, p.most);
        none = below_more (λ (k' : ℕ). (m : List ℕ) → From g L (tail g (at L k')) m → k ≤ length m) i (λ v l m f. omega (arith, c.some.0, p.none v l m f)) (λ m f. closes-fewest g L t k tab w b c.some.1 m (subst (λ (u : ℕ). From g L u m) (sym e) f));
        some = λ h. (t, f);
      }
  fewest-more i size t most tab p wide w b e d None c =
      record {
        least = p.least;
        most = p.most;
        none = below_more (λ (k : ℕ). (m : List ℕ) → From g L (tail g (at L k)) m → size ≤ length m) i p.none (λ m f. omega (arith, closes-none g L t most tab w b c m (subst (λ (u : ℕ). From g L u m) (sym e) f)));
        some = p.some;
      }

  -- by the law those from the tails of the first facts are enough
  pub fewest-end : (news size : ℕ) → FewestOf g L n news size → Within g L n → sound (map (arc g) L) ≡ false → sound (map (arc g) (drop news L)) ≡ true → Fewest g L size × (size ≤ n)
  fewest-end news size p w e o = (record { event = (p.some few).0; row = (p.some few).1; none = none }, few)
    where
      none : (v : ℕ) (m : List ℕ) → From g L v m → size ≤ length m
      none v m f = let (i, h, k) = passes-new g L news o v m f in omega (arith, p.none i h k.list k.closed, k.long)

      few : size ≤ n
      few = let (v, l, f, h) = some-few g L n w e in omega (arith, none v l f)
