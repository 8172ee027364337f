-- The heights above a target: no row of facts to it of at most r arcs gives more than r rounds do, and what r rounds give beyond r times the bias some such row gives. Assumes nothing.
use mathlib.Core.Path.{◌≡◌, refl, sym, ◌∙◌, subst}
use mathlib.Core.Logic.{◌⊎◌, inl, inr}
use mathlib.Core.List.{List, [], ◌∷◌, ◌++◌}
use Prim.Native.Nat.{ℕ, zero, suc, ◌+◌, ◌*◌, ◌≤◌, ◌<◌}
use native.Mathlib.Omega.{arith}
use native.Mathlib.Decide.{dec_lt, ℕ_discrete}
use lib.ListN.{length, replicate, length-set, length-replicate, length-map}
use lib.Seq.{get_or-set_same, get_or-set_other}
use Rattle.meaning.specs.Limits.{most_events, most_alternatives}
use Rattle.meaning.proofs.Settling.{zero-at}
use Rattle.problem.specs.declared.Edge.{Edge}
use Rattle.problem.specs.Arcs.{Net, net, head, tail, bound, bias, at}
use Rattle.facts.specs.Tests.{Within, IsFact}
use Rattle.facts.specs.Rounds.{rows, RaisedBy}
use Rattle.facts.proofs.Rounding.{rows-mono, rows_grow, rows-cover, rows-bounded, rose}
use Rattle.shortest.specs.Paths.{Path, sum}
use Rattle.shortest.specs.Heights.{turned, highest, start, height}

-- ---- rows of facts
pub sum-append : (g : Net) (a b : List ℕ) → sum g (a ++ b) ≡ sum g a + sum g b
sum-append g [] b = omega arith
sum-append g (j ∷ a) b = omega (arith, sum-append g a b)

pub path_join : (g : Net) (L a b : List ℕ) (u v w : ℕ) → Path g L u a v → Path g L v b w → Path g L u (a ++ b) w
path_join g L [] b u v w p q = subst (λ (x : ℕ). Path g L x b w) (sym p) q
path_join g L (j ∷ a) b u v w (f, e, p) q = (f, e, path_join g L a b (head g j) v w p q)

pub path-part : (g : Net) (L a b : List ℕ) (u v w : ℕ) → Path g L u a v → Path g L u (a ++ b) w → Path g L v b w
path-part g L [] b u v w p q = subst (λ (x : ℕ). Path g L x b w) p q
path-part g L (j ∷ a) b u v w (f, e, p) (f', e', q) = path-part g L a b (head g j) v w p q

-- ---- the net of the rounds
-- arcs turned round are arcs
pub turned-within : (g : Net) (L : List ℕ) (n : ℕ) → Within g L n → length g.ys ≤ 2 * most_alternatives → Within (turned g) L n
turned-within g L n w few =
    record {
      known =
          record {
            each = λ i l.
                let a = w.known.each i l in
                record { in-xs = a.in_ys; in_ys = a.in-xs; in-bs = a.in-bs; in_head = a.in_tail; in_tail = a.in_head; small = a.small };
          };
      few = few;
    }

-- so are the arcs of a slice
pub kept-within : (l : List Edge) (L : List ℕ) (n : ℕ) → Within (net l) L n → Within (turned (net l)) L n
kept-within l L n w = turned-within (net l) L n w (omega (arith, length-map l (λ (e : Edge). e.x), length-map l (λ (e : Edge). e.y), w.few))

-- ---- the start
pub start-long : (t : ℕ) → length (start t) ≡ most_events
unfolding start
start-long t = simp length-set (length-replicate {A = ℕ} most_events 0)

start-high : (t : ℕ) → t < most_events → at (start t) t ≡ highest
unfolding start
start-high t h = get_or-set_same (replicate most_events 0) t highest 0 (omega (arith, length-replicate {A = ℕ} most_events 0))

start-low : (t v : ℕ) → (v ≡ t → ⊥) → at (start t) v ≡ 0
unfolding start
start-low t v d = get_or-set_other (replicate most_events 0) t v highest 0 d ∙ zero-at most_events v

start-height : (g : Net) (L : List ℕ) (t u : ℕ) → height g L t 0 u ≡ at (start t) u
unfolding rows
start-height g L t u = refl

-- before the first round the target is as high as its start, and all else at 0
pub target-height : (g : Net) (L : List ℕ) (t : ℕ) → t < most_events → height g L t 0 t ≡ highest
target-height g L t h = start-height g L t t ∙ start-high t h

pub other-height : (g : Net) (L : List ℕ) (t u : ℕ) → (u ≡ t → ⊥) → height g L t 0 u ≡ 0
other-height g L t u d = start-height g L t u ∙ start-low t u d

start-bounded : (t : ℕ) → t < most_events → (v : ℕ) → at (start t) v ≤ highest
start-bounded t h v = go (ℕ_discrete v t)
  where
    go : Dec (v ≡ t) → at (start t) v ≤ highest
    go (yes e) = rw e (omega (arith, start-high t h))
    go (no d) = omega (arith, start-low t v d)

-- no row, or a row of at most r facts from u to t that gives it its height
abbrev pub Reached : Net → List ℕ → ℕ → ℕ → ℕ → Type 0
Reached g L t r u = (height g L t r u ≤ r * bias) ⊎ ((l : List ℕ) × Path g L u l t × (length l ≤ r) × (height g L t r u + sum g l ≡ highest + length l * bias))

-- ---- the rounds
module _ (g : Net) (L : List ℕ) (w : Within (turned g) L most_events) (t : ℕ) (b : t < most_events) where
  long : most_events ≤ length (start t)
  long = omega (arith, start-long t)

  pub height-bounded : (r v : ℕ) → height g L t r v ≤ highest + r * bias
  height-bounded = rows-bounded (turned g) L most_events w (start t) long highest (start-bounded t b)

  cover : (r j : ℕ) → IsFact L j → height g L t r (head g j) + bias ≤ height g L t (suc r) (tail g j) + bound g j
  cover r j f = subst (λ (j : ℕ). height g L t r (head g j) + bias ≤ height g L t (suc r) (tail g j) + bound g j) f.same (rows-cover (turned g) L most_events w (start t) long r f.place f.below)

  -- no row of facts to the target gives more: each round covers each fact, so one round carries the height of a fact's head over to its tail
  pub none-higher : (l : List ℕ) (r u : ℕ) → Path g L u l t → length l ≤ r → highest + length l * bias ≤ height g L t r u + sum g l
  none-higher [] r u e h =
      let f : 0 + r ≡ r = omega arith in
      rw e (omega (arith, target-height g L t b, rw f at (rows-mono (turned g) L most_events w (start t) long 0 r t)))
  none-higher (j ∷ l) zero u p h = absurd (omega arith)
  none-higher (j ∷ l) (suc r) u (f, e, p) h = rw (← e) (omega (arith, none-higher l r (head g j) p (omega arith), cover r j f))

  -- what is higher than any other start leads to comes from the target: what rose in a round was raised by a fact, exactly, and that fact goes before the row that its head has
  pub some-as-high : (r u : ℕ) → Reached g L t r u
  some-as-high zero u = go (ℕ_discrete u t)
    where
      go : Dec (u ≡ t) → Reached g L t 0 u
      go (yes e) = inr ([], e, omega arith, rw e (omega (arith, target-height g L t b)))
      go (no d) = inl (omega (arith, other-height g L t u d))
  some-as-high (suc r) u = go (dec_lt (height g L t r u) (height g L t (suc r) u)) (some-as-high r u) (λ v. some-as-high r v)
    where
      raised : (i : ℕ) → RaisedBy (turned g) L (rows (turned g) L (start t) r) (rows (turned g) L (start t) (suc r)) u i → Reached g L t r (head g (at L i)) → Reached g L t (suc r) u
      raised i b (inl h) = inl (omega (arith, b.raises.exact))
      raised i b (inr (l, p, h, e)) =
          inr (at L i ∷ l, (record { place = i; below = b.below; same = refl }, b.raises.heads, p), omega arith, omega (arith, b.raises.exact))

      go : Dec (height g L t r u < height g L t (suc r) u) → Reached g L t r u → ((v : ℕ) → Reached g L t r v) → Reached g L t (suc r) u
      go (yes h) here more = let (i, b) = rose (turned g) L most_events w (start t) long r u h in raised i b (more (head g (at L i)))
      go (no h) (inl k) more = inl (omega (arith, h))
      go (no h) (inr (l, p, k, e)) more = inr (l, p, omega arith, omega (arith, h, rows_grow (turned g) L most_events w (start t) long r u))
