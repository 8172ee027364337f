-- A piece read byte by byte: what was read goes in front of what remains. Assumes nothing.
use mathlib.Core.Path.{◌≡◌, refl, sym, ap, ap₂, ◌∙◌}
use mathlib.Core.Bool.{Bool, true, false, cond}
use mathlib.Core.List.{List, [], ◌∷◌, ◌++◌, append_assoc}
use mathlib.Core.Option.{some}
use Prim.Native.Nat.{ℕ, zero, suc, ◌+◌, ◌<◌, ◌≤◌}
use native.Mathlib.Numerals.{add-one}
use native.Mathlib.Omega.{arith}
use borrow.Author.Tests.{eq-eqb, ne_eqb}
use lib.Dec.{eqb}
use lib.ListN.{length, drop, get_or, drop_of_length-le}
use lib.Seq.{drop-cons, slice, slice_empty}
use Rattle.grammar.specs.Grammar.{Role, role_no, script}
use Rattle.grammar.specs.Place.{role_of, place_from}
use Rattle.grammar.specs.States.{grown, origins, states, grammar_of}
use Rattle.grammar.specs.Pieces.{Piece, join_to, pieces}
use Rattle.grammar.specs.declared.automaton.Move.{Move}
use Rattle.grammar.specs.declared.role.Role.{Role as Coded}
use Rattle.grammar.specs.Roles.{meant}
use Rattle.grammar.specs.Automaton.{Steps, Moves, NoPiece, IsPiece}
use Rattle.std.specs.Prelude.{Some, None}
use Rattle.grammar.proofs.Same.{role-eq, meant-once}

-- ---- the first state
pub starts : grammar_of 1 ≡ script
unfolding grammar_of states grown origins
starts = refl

-- ---- runs put in front
abbrev piece : Role → ℕ → List ℕ → Piece
piece r i w = record { role = r; from = i; word = w }

-- bytes of one role in front of further bytes of that role are one run
pub join-join : (at i : ℕ) (r : Role) (w v : List ℕ) (ps : List Piece) → join_to at r w (join_to i r v ps) ≡ join_to at r (w ++ v) ps
unfolding join_to
join-join at i r w v [] = rw (eq-eqb (role_no r) (role_no r) refl)
join-join at i r w v (p ∷ ps) = go (eqb (role_no r) (role_no p.role))
  where
    own : eqb (role_no r) (role_no r) ≡ true
    own = eq-eqb (role_no r) (role_no r) refl

    go : (t : Bool) → join_to at r w (cond t (piece r i (v ++ p.word) ∷ ps) (piece r i v ∷ p ∷ ps)) ≡ cond t (piece r at ((w ++ v) ++ p.word) ∷ ps) (piece r at (w ++ v) ∷ p ∷ ps)
    go true = rw (own, append_assoc w v p.word)
    go false = rw own

-- bytes of another role begin another piece
pub join_apart : (at i : ℕ) (r s : Role) (w v : List ℕ) (ps : List Piece) → (role_no r ≡ role_no s → ⊥) → join_to at r w (join_to i s v ps) ≡ piece r at w ∷ join_to i s v ps
unfolding join_to
join_apart at i r s w v [] n = rw (ne_eqb (role_no r) (role_no s) n)
join_apart at i r s w v (p ∷ ps) n = go (eqb (role_no s) (role_no p.role))
  where
    go : (t : Bool) → join_to at r w (cond t (piece s i (v ++ p.word) ∷ ps) (piece s i v ∷ p ∷ ps)) ≡ piece r at w ∷ cond t (piece s i (v ++ p.word) ∷ ps) (piece s i v ∷ p ∷ ps)
    go true = rw (ne_eqb (role_no r) (role_no s) n)
    go false = rw (ne_eqb (role_no r) (role_no s) n)

-- ---- one byte
slice-more : (l : List ℕ) (at i : ℕ) → at ≤ i → i < length l → slice at (suc i) l ≡ slice at i l ++ (get_or l i 0 ∷ [])
slice-more [] at i h k = absurd (omega arith)
slice-more (x ∷ l) zero zero h k = refl
slice-more (x ∷ l) zero (suc i) h k = ap (λ (m : List ℕ). x ∷ m) (slice-more l zero i (omega arith) (omega arith))
slice-more (x ∷ l) (suc at) zero h k = absurd (omega arith)
slice-more (x ∷ l) (suc at) (suc i) h k = slice-more l at i (omega arith) (omega arith)

module _ (text : List ℕ) (i s : ℕ) where
  byte-there : i < length text → drop i text ≡ get_or text i 0 ∷ drop (i + 1) text
  byte-there h = rw (add-one, drop-cons text i 0)

  pub none-at-end : length text ≤ i → pieces i (grammar_of s) (drop i text) ≡ []
  unfolding pieces
  none-at-end h = rw (drop_of_length-le text h)

  -- the byte there leads to the state t
  module _ (t r : ℕ) (inside : i < length text) (m : Steps s (get_or text i 0) t r) where
    pub refused-here : t ≡ 0 → place_from i (grammar_of s) (drop i text) ≡ some i
    unfolding place_from
    refused-here z = rw (byte-there inside, m.refuses z)

    pub none-where-refused : t ≡ 0 → pieces i (grammar_of s) (drop i text) ≡ []
    unfolding pieces
    none-where-refused z = rw (byte-there inside, m.refuses z)

    goes-on-here : (t ≡ 0 → ⊥) → place_from i (grammar_of s) (drop i text) ≡ place_from (i + 1) (grammar_of t) (drop (i + 1) text)
    unfolding place_from
    goes-on-here n = rw (byte-there inside, m.goes_on n, ← m.leads, add-one)

    joins : (t ≡ 0 → ⊥) → pieces i (grammar_of s) (drop i text) ≡ join_to i (role_of (get_or text i 0) (grammar_of s)) (get_or text i 0 ∷ []) (pieces (i + 1) (grammar_of t) (drop (i + 1) text))
    unfolding pieces
    joins n = rw (byte-there inside, m.goes_on n, ← m.leads, add-one)

-- ---- the piece so far, of the role ρ: from `at` up to i, begun at the state q, with s there
pub record Run (text : List ℕ) (at q : ℕ) (ρ : Role) (i s : ℕ) : Type 0 where
  pub so_far : pieces at (grammar_of q) (drop at text) ≡ join_to at ρ (slice at i text) (pieces i (grammar_of s) (drop i text))
  pub place : place_from at (grammar_of q) (drop at text) ≡ place_from i (grammar_of s) (drop i text)

module _ (text : List ℕ) (at q : ℕ) where
  -- its first byte
  pub run-begins : (m : Move) → at < length text → Moves q (get_or text at 0) (Some m) → Run text at q (meant m.role) (at + 1) m.to
  run-begins m h (n, p) =
      let b : ℕ = get_or text at 0 in
      let rest : List Piece = pieces (at + 1) (grammar_of m.to) (drop (at + 1) text) in
      let is : role_of b (grammar_of q) ≡ meant m.role = role-eq _ _ (sym (p.role n)) in
      let one : slice at (at + 1) text ≡ b ∷ [] = ap (λ (k : ℕ). slice at k text) (add-one at) ∙ slice-more text at at (omega arith) h ∙ ap (λ (l : List ℕ). l ++ (b ∷ [])) (slice_empty at text) in
      record {
        so_far = joins text at q m.to _ h p n ∙ ap₂ (λ (ρ : Role) (l : List ℕ). join_to at ρ l rest) is (sym one);
        place = goes-on-here text at q m.to _ h p n;
      }

  module _ (r : Coded) (i s : ℕ) (from : at < i) (run : Run text at q (meant r) i s) where
    -- one byte more
    pub run-goes-on : (m : Move) → i < length text → Moves s (get_or text i 0) (Some m) → m.role ≡ r → Run text at q (meant r) (i + 1) m.to
    run-goes-on m h (n, p) same =
        let b : ℕ = get_or text i 0 in
        let ρ : Role = meant r in
        let is : role_of b (grammar_of s) ≡ ρ = role-eq _ _ (sym (p.role n)) ∙ ap meant same in
        let rest : List Piece = pieces (i + 1) (grammar_of m.to) (drop (i + 1) text) in
        let more : slice at i text ++ (b ∷ []) ≡ slice at (i + 1) text = sym (ap (λ (k : ℕ). slice at k text) (add-one i) ∙ slice-more text at i (omega arith) h) in
        record {
          so_far =
              run.so_far ∙ ap (join_to at ρ (slice at i text)) (joins text i s m.to _ h p n ∙ ap (λ (σ : Role). join_to i σ (b ∷ []) rest) is)
              ∙ join-join at i ρ (slice at i text) (b ∷ []) rest ∙ ap (λ (l : List ℕ). join_to at ρ l rest) more;
          place = run.place ∙ goes-on-here text i s m.to _ h p n;
        }

    -- its end
    Apart : Type 0
    Apart = join_to at (meant r) (slice at i text) (pieces i (grammar_of s) (drop i text)) ≡ piece (meant r) at (slice at i text) ∷ pieces i (grammar_of s) (drop i text)

    ended : i ≤ length text → Apart → IsPiece text at q (record { role = r; to = i; state = s })
    unfolding Apart
    ended w e = record { onward = from; within = w; same_place = run.place; the-piece = run.so_far ∙ e }

    nothing-after : pieces i (grammar_of s) (drop i text) ≡ [] → Apart
    unfolding join_to Apart
    nothing-after z = rw z

    pub ends-with-text : i ≡ length text → IsPiece text at q (record { role = r; to = i; state = s })
    ends-with-text w = ended (omega arith) (nothing-after (none-at-end text i s (omega arith)))

    pub ends-refused : i < length text → Moves s (get_or text i 0) None → IsPiece text at q (record { role = r; to = i; state = s })
    ends-refused w m = ended (omega arith) (nothing-after (none-where-refused text i s 0 0 w m refl))

    pub ends-apart : (m : Move) → i < length text → Moves s (get_or text i 0) (Some m) → (m.role ≡ r → ⊥) → IsPiece text at q (record { role = r; to = i; state = s })
    unfolding Apart
    ends-apart m w (n, p) differ =
        let b : ℕ = get_or text i 0 in
        let σ : Role = role_of b (grammar_of s) in
        let rest : List Piece = pieces (i + 1) (grammar_of m.to) (drop (i + 1) text) in
        let j : pieces i (grammar_of s) (drop i text) ≡ join_to i σ (b ∷ []) rest = joins text i s m.to _ w p n in
        ended (omega arith) (rw (j) (join_apart at i (meant r) σ (slice at i text) (b ∷ []) rest (λ z. differ (meant-once _ _ (role-eq _ _ (p.role n ∙ sym z))))))

  -- no piece
  pub none-at-the-end : length text ≤ at → NoPiece text at q
  none-at-the-end k = record { no_more = none-at-end text at q k; stuck = λ w. absurd (omega arith) }

  pub none-refused : at < length text → Moves q (get_or text at 0) None → NoPiece text at q
  none-refused h m = record { no_more = none-where-refused text at q 0 0 h m refl; stuck = λ w. refused-here text at q 0 0 h m refl }
