-- The clauses of a script that is read are those that its asserts say, in their order. Assumes nothing.
use mathlib.Core.Path.{◌≡◌, refl, sym, ap, ◌∙◌, subst}
use mathlib.Core.Bool.{Bool, true, false, cond}
use mathlib.Core.List.{List, [], ◌∷◌, ◌++◌, append-nil, append_assoc}
use Rattle.std.specs.Prelude.{Option as Spelt, None, Some}
use Prim.Native.Nat.{ℕ, suc, ◌+◌, ◌-◌, ◌*◌, ◌/◌, ◌≤◌, ◌<◌}
use native.Mathlib.Omega.{arith}
use lib.Dec.{leb}
use lib.IntN.{ℤ, pos, neg_ℤ}
use lib.ListN.{length, drop, length-append, drop_of_length-le}
use lib.Seq.{drop-append-le}
use Rattle.laws.proofs.Tests.{never}
use Rattle.meaning.specs.declared.Refusal.TheVariants.{Events, Clauses, Triples, Script}
use Rattle.meaning.specs.Limits.{most_events, most_clauses, most_alternatives, most_bound}
use Rattle.meaning.specs.Screen.{alternatives, parted, clauses_of}
use Rattle.meaning.proofs.Accepted.{alternatives-count}
use Rattle.dialogue.specs.Words.{are_digits, value_from, digits_from, unsigned_of}
use Rattle.grammar.specs.Grammar.{Role, other, new_name, first_name, second_name, bound_digit, negated_digit, declaration_end, assert_end, check_end, role_no, bytes, among, is_a, spelled, blank, gap, parting, opening, closing_as, symbol_as, numeral_as, bound, difference, atom, optional, held, declared, command, set_logic, check_sat, script}
use Rattle.grammar.specs.Place.{ends, live, follow, is_none, choose, after, role_of}
use Rattle.grammar.specs.Pieces.{Piece, join_to, pieces}
use Rattle.grammar.proofs.Atoms.{Taken, Whole}
use Rattle.script.specs.Words.{same_word, event_of, is_new}
use Rattle.script.specs.Reading.{Read, going, refused, unless, signed, with_new, found, with_bound, with_name, with_clause, with_check, read_piece, read_all, nothing_read, answer_at}
use Rattle.script.specs.Said.{Said, nothing_said, say_bound, say_piece, say_all, clauses_said}
use Rattle.script.proofs.Answers.{script-of-d1}
use Rattle.script.proofs.Taking.{renamed, named, bounded, claused}
use Rattle.script.proofs.Accepting.{lent_of, said-atom, said-clause, said-no-clause, Counted, Good, threes, begins, unless-going, event-going, piece-good, first_read, read_whole}

-- a word among the names keeps its event where names are added after them: the first of them that it is stays the first
pub event-kept : (names more : List (List ℕ)) (w : List ℕ) → event_of names w < length names → event_of (names ++ more) w ≡ event_of names w
unfolding event_of
event-kept [] more w h = absurd (omega arith)
event-kept (n ∷ names) more w h = go (same_word n w) h (λ l. event-kept names more w l)
  where
    go : (b : Bool) → cond b 0 (suc (event_of names w)) < suc (length names) → (event_of names w < length names → event_of (names ++ more) w ≡ event_of names w) → cond b 0 (suc (event_of (names ++ more) w)) ≡ cond b 0 (suc (event_of names w))
    go true l f = refl
    go false l f = ap suc (f (omega arith))

-- ---- what holds on the way
-- what was said is what was read, h alternatives standing past the last count
record Same (h x y : ℕ) (triples : List ℤ) (counts : List ℕ) (s : Said) : Type 0 where
  x-is : s.x ≡ x
  y-is : s.y ≡ y
  many-are : s.many ≡ length triples / 3
  clause-is : s.clause ≡ drop (length triples / 3 - h) (alternatives 0 triples)
  clauses-are : s.clauses ≡ parted 0 counts (alternatives 0 triples)

-- whatever names the whole script has: those read so far, and any more
abbrev Says : ℕ → Read → (List (List ℕ) → Said) → Type 0
Says h R s = (more : List (List ℕ)) → Same h R.x R.y R.triples R.counts (s (R.names ++ more))

nothing-said : Says 0 nothing_read (λ names. nothing_said)
unfolding parted alternatives
nothing-said more = record { x-is = refl; y-is = refl; many-are = refl; clause-is = refl; clauses-are = refl }

-- what is said with a piece besides
abbrev with : Role → List ℕ → (List (List ℕ) → Said) → List (List ℕ) → Said
with role w s names = say_piece names role w (s names)

-- ---- a piece of each role
module _ (h : ℕ) (R : Read) (s : List (List ℕ) → Said) (r : Counted h R.triples R.counts) (f : Says h R s) where
  -- an atom's name that is declared: its event is the one that it keeps
  module _ (w : List ℕ) (l : event_of R.names w < length R.names) where
    first_said : Says h (found false (event_of R.names w) R) (with first_name w s)
    unfolding say_piece
    first_said more =
        let p = f more in
        record { x-is = event-kept R.names more w l; y-is = p.y-is; many-are = p.many-are; clause-is = p.clause-is; clauses-are = p.clauses-are }

    second-said : Says h (found true (event_of R.names w) R) (with second_name w s)
    unfolding say_piece
    second-said more =
        let p = f more in
        record { x-is = p.x-is; y-is = event-kept R.names more w l; many-are = p.many-are; clause-is = p.clause-is; clauses-are = p.clauses-are }

  -- a bound: the open clause gains the alternative that the triples gain, and no clause ends
  bound-said : (negated : Bool) (v : ℕ) → Says (suc h) (bounded R negated v) (λ names. say_bound negated (Some v) (s names))
  unfolding say_bound clauses_of
  bound-said negated v more =
      let p = f more in
      let L : ℕ = length R.triples in
      let c : ℤ = signed negated v in
      let three : List ℤ = pos R.x ∷ pos R.y ∷ c ∷ [] in
      let longer : length (R.triples ++ three) ≡ L + 3 = length-append R.triples three in
      let same_place : length (R.triples ++ three) / 3 - suc h ≡ L / 3 - h = omega arith in
      let within : L / 3 - h ≤ length (alternatives 0 R.triples) = omega (arith, alternatives-count 0 R.triples) in
      record {
        x-is = p.x-is;
        y-is = p.y-is;
        many-are = omega (arith, p.many-are);
        clause-is =
            rw (same_place, said-atom R.triples R.x R.y c (threes r), drop-append-le (L / 3 - h) (alternatives 0 R.triples) _ within)
            (rw (p.clause-is, p.many-are, p.x-is, p.y-is));
        clauses-are = p.clauses-are ∙ sym (said-no-clause R r.last R.x R.y c r.steps (omega (arith, r.since)) (threes r));
      }

  -- an assert's end: the open clause is the one that the counts gain, and nothing stands past the last count
  clause-said : (w : List ℕ) → Says 0 (claused R) (with assert_end w s)
  unfolding say_piece clauses_of
  clause-said w more =
      let p = f more in
      let L : ℕ = length R.triples in
      let last-is : L / 3 - h ≡ r.last = omega (arith, r.since) in
      record {
        x-is = p.x-is;
        y-is = p.y-is;
        many-are = p.many-are;
        clause-is = sym (drop_of_length-le (alternatives 0 R.triples) {i = L / 3 - 0} (omega (arith, alternatives-count 0 R.triples)));
        clauses-are = rw (said-clause R r.last r.steps, p.clauses-are, p.clause-is, last-is);
      }

  -- ---- if it is taken
  module _ (Q : Read) where
    same-says : {S : Read} (k : ℕ) (said : List (List ℕ) → Said) → S ≡ Q → Says k S said → Says k Q said
    same-says k said same p = subst (λ (S : Read). Says k S said) same p

    bound-says : (negated : Bool) (o : Spelt ℕ) → with_bound negated o R ≡ going Q → Says (suc h) Q (λ names. say_bound negated o (s names))
    unfolding with_bound
    bound-says negated None p = absurd (never (cc))
    bound-says negated (Some v) p =
        let same : bounded R negated v ≡ Q = cc in
        same-says (suc h) (λ names. say_bound negated (Some v) (s names)) same (bound-said negated v)

    clause-says : (w : List ℕ) → with_clause R ≡ going Q → Says 0 Q (with assert_end w s)
    unfolding with_clause
    clause-says w p = go (leb (length (claused R).counts) most_clauses) p
      where
        go : (x : Bool) → cond x (unless (leb (length R.triples) (3 * most_alternatives)) Triples 0 (claused R)) (refused Clauses 0) ≡ going Q → Says 0 Q (with assert_end w s)
        go false q = absurd (never (cc))
        go true q = same-says 0 (with assert_end w s) (unless-going (leb (length R.triples) (3 * most_alternatives)) Triples 0 (claused R) Q q).1 (clause-said w)

    -- the role says how many alternatives then stand past the last count
    module _ (o e : Bool) (W : ℕ → Bool → Bool → Type 0) (from : ℕ) (w : List ℕ) where
      piece-says : (role : Role) → Taken role h o e W → read_piece role from w R ≡ going Q → Taken role h o e (λ k u x. W k u x × Says k Q (with role w s))
      unfolding read_piece with_new with_name with_check say_piece
      piece-says other t p = let same : R ≡ Q = cc in (t, same-says h (with other w s) same f)
      piece-says new_name t p = (t, same-says h (with new_name w s) (unless-going (is_new R.names w) Script from (renamed R w) Q p).1 f)
      piece-says first_name t p = let three = event-going false from w R Q p in (t, same-says h (with first_name w s) three.2 (first_said w three.0))
      piece-says second_name t p = let three = event-going true from w R Q p in (t, same-says h (with second_name w s) three.2 (second-said w three.0))
      piece-says bound_digit t p = (t.0, t.1, (t.2, bound-says false (unsigned_of most_bound w) p))
      piece-says negated_digit t p = (t.0, t.1, (t.2, bound-says true (unsigned_of most_bound w) p))
      piece-says declaration_end t p = (t, same-says h (with declaration_end w s) (unless-going (leb (length (named R).names) most_events) Events 0 (named R) Q p).1 (λ more. rw append_assoc (f (R.new ∷ more))))
      piece-says assert_end t p = (t, clause-says w p)
      piece-says check_end t p = (t, same-says h (with check_end w s) (unless-going (leb 1 (length R.names)) Events 0 R Q p).1 f)

-- ---- the whole script
-- Piece by piece: what was said before it is what was read, and so what is said with it; at the end no more names come.
all_said : (ps : List Piece) (h : ℕ) (o e : Bool) (R Q : Read) (s : List (List ℕ) → Said) → Whole h o e ps → Good h o e R → Says h R s → read_all ps R ≡ going Q → clauses_of (lent_of Q) ≡ (say_all Q.names ps (s Q.names)).clauses
unfolding read_all say_all clauses_of
all_said [] h o e R Q s t g f p =
    let same : R ≡ Q = cc in
    subst (λ (S : Read). clauses_of (lent_of S) ≡ (s S.names).clauses) same (sym (rw append-nil at (f []).clauses-are))
all_said (p ∷ ps) h o e R Q s t g f q =
    let one = first_read p ps R Q q in
    let S : Read = one.0 in
    let said : List (List ℕ) → Said = with p.role p.word s in
    let n = piece-good h o e R g (λ k u x. Whole k u x ps × Says k S said) S p.role p.from p.word (piece-says h R s g.1 f S o e (λ k u x. Whole k u x ps) p.from p.word p.role t one.1) one.1 in
    all_said ps n.0 n.1 n.2 S Q said n.3.0 n.4 n.3.1 one.2

-- A script that is read gives "the alternatives and clauses that the script's asserts say, in their order":
-- before its first piece nothing is read and nothing said, and each of its pieces is taken.
pub asserts-said : (text : List ℕ) (at : ℕ) (R : Read) → answer_at text at ≡ going R → clauses_of (lent_of R) ≡ clauses_said R.names (pieces at script (drop at text))
asserts-said text at R p =
    let w = read_whole text at R p in
    all_said (pieces at script (drop at text)) 0 false false nothing_read R (λ names. nothing_said) w.0 begins nothing-said w.1

-- D1's script says D1's one clause, which antt computes
d1-said : clauses_said (bytes "e0" ∷ bytes "e1" ∷ []) (pieces 0 script script-of-d1) ≡ (record { no = 0; x = 0; y = 1; c = neg_ℤ (pos 30) } ∷ []) ∷ []
unfolding script-of-d1 bytes among is_a role_no spelled blank gap parting opening closing_as symbol_as numeral_as bound difference atom optional held declared command set_logic check_sat script ends live follow is_none choose after role_of join_to pieces same_word event_of are_digits value_from digits_from unsigned_of say_bound say_piece say_all
d1-said = refl
