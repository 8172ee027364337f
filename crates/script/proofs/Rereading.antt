-- What is written is read: the text of an accepted problem, line by line, leaves what was read holding the problem itself. Assumes nothing.
use mathlib.Core.Path.{◌≡◌, refl, sym, ap, ◌∙◌}
use mathlib.Core.Bool.{Bool, true, false}
use mathlib.Core.List.{List, [], ◌∷◌, ◌++◌, map, append-nil, append_assoc}
use Prim.Native.Nat.{ℕ, zero, suc, ◌+◌, ◌*◌, ◌/◌, ◌≤◌, ◌<◌}
use native.Mathlib.Omega.{arith}
use lib.Dec.{T}
use borrow.Author.Tests.{le-leb, ne_eqb}
use lib.IntN.{ℤ, pos, negsuc, nat_abs}
use lib.ListN.{length, length-append}
use Rattle.laws.proofs.Tests.{is_true}
use Rattle.meaning.specs.Limits.{most_events, most_clauses, most_in_clause, most_alternatives, most_bound}
use Rattle.meaning.specs.Problem.{Alternative, Clause}
use Rattle.meaning.specs.Screen.{Lent, clauses_of, problem_refusal}
use Rattle.meaning.proofs.Settling.{Each, In}
use Rattle.meaning.proofs.Rows.{Short}
use Rattle.meaning.proofs.Accepted.{Every, every-both, Apart, Bounded, sizes, accepted}
use Rattle.dialogue.specs.Written.{decimal, led}
use Rattle.dialogue.proofs.Decimals.{reads-back}
use Rattle.grammar.specs.Grammar.{bound_digit, negated_digit, first_name, second_name, new_name, declaration_end, assert_end, check_end, bytes, Grammar, script}
use Rattle.grammar.specs.Place.{ends, place_from}
use Rattle.grammar.specs.Pieces.{pieces}
use Rattle.grammar.proofs.Places.{after_all}
use Rattle.script.specs.Words.{event_of}
use Rattle.script.specs.Reading.{Read, going, signed, found, with_check, read_piece, read_all, settled, nothing_read, answer_at}
use Rattle.script.specs.Text.{name_of, declaration_of, declarations_from, bound_of, atom_of, atom_text, held_of, assert_of, asserts_of, text_of}
use Rattle.script.proofs.Taking.{renamed, new-taken, event-taken, named, name-taken, bounded, bound-taken, claused, clause-taken}
use Rattle.script.proofs.Accepting.{lent_of}
use Rattle.script.proofs.Strokes.{answer_from, Leads, nowhere-led, led_on, plainly, plain-led, led-by}
use Rattle.script.proofs.Lines.{numeral, single, lines, opened, closed, in_or, bounding, finished, declaring, asserting, checking, naming, Atom, lines-lead}
use Rattle.script.proofs.Naming.{name-word, numeral-word, single-word, zero_is, names_up_to, names-many, event-found, name_new}
use Rattle.script.proofs.Regaining.{triples_of, triples_in, counts_from, triples-again, counts-again}

-- what was read so far: the names of n events, these triples and these counts
pub record Having (n : ℕ) (triples : List ℤ) (counts : List ℕ) (R : Read) : Type 0 where
  pub names-are : R.names ≡ names_up_to n
  pub triples-are : R.triples ≡ triples
  pub counts-are : R.counts ≡ counts

-- the text w leads from g to h, after which these are had
pub record Gives (g : Grammar) (R : Read) (w : List ℕ) (h : Grammar) (n : ℕ) (triples : List ℤ) (counts : List ℕ) : Type 0 where
  pub end : Read
  pub leads : Leads g R w h end
  pub having : Having n triples counts end

-- one text after another
given-on : {g h k : Grammar} {R : Read} {n m : ℕ} {ts us : List ℤ} {cs ds : List ℕ} (v w : List ℕ) → Gives g R v h n ts cs → ((S : Read) → Having n ts cs S → Gives h S w k m us ds) → Gives g R (v ++ w) k m us ds
given-on v w a f =
    let b = f a.end a.having in
    record { end = b.end; leads = led_on v w a.leads b.leads; having = b.having }

-- bytes of no effect
given-plain : {R : Read} {n : ℕ} {ts : List ℤ} {cs : List ℕ} (w : List ℕ) (g : Grammar) → T (plainly w g) → Having n ts cs R → Gives g R w (after_all w g) n ts cs
given-plain {R} w g t had = record { end = R; leads = plain-led w g R t; having = had }

-- the events of an alternative: two, below n
abbrev Named : ℕ → Alternative → Type 0
Named n a = In n a × Apart a

-- ---- declarations
module _ (e : ℕ) (below : e < most_events) (R : Read) (triples : List ℤ) (counts : List ℕ) (had : Having e triples counts R) where
  declaration-given : Gives lines R (declaration_of e) lines (suc e) triples counts
  unfolding declaration_of bytes read_piece names_up_to
  declaration-given =
      let w = name_of e in
      let new : (from : ℕ) → read_piece new_name from w R ≡ going (renamed R w) = λ from. new-taken R from w (rw had.names-are (name_new e below)) in
      let few : length R.names < most_events = rw (had.names-are, names-many e) below in
      let more : (from : ℕ) → read_piece declaration_end from (41 ∷ []) (renamed R w) ≡ going (named (renamed R w)) = λ from. name-taken (renamed R w) few in
      record {
        end = named (renamed R w);
        leads =
            led_on (bytes "(declare-fun ") (w ++ bytes " () Int)\n") (plain-led (bytes "(declare-fun ") lines R lines-lead.declares)
            (led-by declaring (w ∷ (41 ∷ []) ∷ []) [] lines-lead.declared
            (renamed R w, name-word new_name (bytes " () Int") e below, new, (named (renamed R w), single-word declaration_end 41 (bytes "\n"), more, refl))
            (nowhere-led lines (named (renamed R w))));
        having = record { names-are = ap (λ (l : List (List ℕ)). l ++ (w ∷ [])) had.names-are; triples-are = had.triples-are; counts-are = had.counts-are };
      }

declarations-given : (k e : ℕ) → e + k ≤ most_events → (R : Read) (ts : List ℤ) (cs : List ℕ) → Having e ts cs R → Gives lines R (declarations_from e k) lines (e + k) ts cs
unfolding declarations_from
declarations-given zero e h R ts cs had = let all : e + 0 ≡ e = omega arith in rw all (record { end = R; leads = nowhere-led lines R; having = had })
declarations-given (suc k) e h R ts cs had =
    let one_more : e + suc k ≡ suc e + k = omega arith in
    rw one_more
    (given-on (declaration_of e) (declarations_from (suc e) k) (declaration-given e (omega arith) R ts cs had)
    (λ S got. declarations-given k (suc e) (omega arith) S ts cs got))

-- ---- atoms
-- with the events of the two names
module _ (n : ℕ) (few : n ≤ most_events) (ts : List ℤ) (cs : List ℕ) where
  -- a bound of either sign makes a triple of them
  module _ (x y : ℕ) (h : Grammar) (R : Read) (had : Having n ts cs R) (x-is : R.x ≡ x) (y-is : R.y ≡ y) where
    with-bound : (negated : Bool) (v : ℕ) → Having n (ts ++ (pos x ∷ pos y ∷ signed negated v ∷ [])) cs (bounded R negated v)
    with-bound negated v = record { names-are = had.names-are; triples-are = rw (had.triples-are, x-is, y-is); counts-are = had.counts-are }

    bound-given : (g : Grammar) → Atom g h → (c : ℤ) → nat_abs c ≤ most_bound → Gives (bounding g) R (bound_of c ++ bytes ")") h n (ts ++ (pos x ∷ pos y ∷ c ∷ [])) cs
    unfolding bound_of bytes read_piece
    bound-given g a (pos zero) k =
        record {
          end = bounded R false 0;
          leads =
              rw zero_is
              (led-by (single bound_digit 48 (bytes ")") ∷ []) ((48 ∷ []) ∷ []) [] a.at-zero
              (bounded R false 0, single-word bound_digit 48 (bytes ")"), (λ from. bound-taken R false 0 _ (rw (← zero_is) (reads-back most_bound 0 (omega arith) (omega arith)))), refl)
              (nowhere-led h (bounded R false 0)));
          having = with-bound false 0;
        }
    bound-given g a (pos (suc v)) k =
        record {
          end = bounded R false (suc v);
          leads =
              led-by (numeral bound_digit (bytes ")") ∷ []) (decimal (suc v) ∷ []) [] a.above_zero
              (bounded R false (suc v), numeral-word bound_digit (bytes ")") (suc v) (omega arith) (omega arith), (λ from. bound-taken R false (suc v) _ (reads-back most_bound (suc v) k (omega arith))), refl)
              (nowhere-led h (bounded R false (suc v)));
          having = with-bound false (suc v);
        }
    bound-given g a (negsuc v) k =
        record {
          end = bounded R true (suc v);
          leads =
              rw (append_assoc (decimal (suc v)) (bytes ")") (bytes ")"))
              (led_on (bytes "(- ") (decimal (suc v) ++ bytes "))") (plain-led (bytes "(- ") (bounding g) R a.minus)
              (led-by (numeral negated_digit (bytes "))") ∷ []) (decimal (suc v) ∷ []) [] a.below-zero
              (bounded R true (suc v), numeral-word negated_digit (bytes "))") (suc v) (omega arith) (omega arith), (λ from. bound-taken R true (suc v) _ (reads-back most_bound (suc v) k (omega arith))), refl)
              (nowhere-led h (bounded R true (suc v)))));
          having = with-bound true (suc v);
        }

  -- an atom makes a triple
  atom-given : (a : Alternative) → Named n a → Bounded a → (g h : Grammar) → Atom g h → (R : Read) → Having n ts cs R → Gives g R (atom_text a) h n (ts ++ (pos a.x ∷ pos a.y ∷ a.c ∷ [])) cs
  unfolding atom_of bytes read_piece
  atom-given a i k g h ways R had =
      let x = name_of a.x in
      let y = name_of a.y in
      let x-found : event_of R.names x ≡ a.x = rw had.names-are (event-found n a.x i.0.0 few) in
      let y-found : event_of R.names y ≡ a.y = rw had.names-are (event-found n a.y i.0.1 few) in
      let many : length R.names ≡ n = rw had.names-are (names-many n) in
      let P : Read = found false (event_of R.names x) R in
      let Q : Read = found true (event_of R.names y) P in
      let other : (event_of R.names y ≡ event_of R.names x → ⊥) = λ same. i.1 (sym x-found ∙ sym same ∙ y-found) in
      let b = bound-given a.x a.y h Q (record { names-are = had.names-are; triples-are = had.triples-are; counts-are = had.counts-are }) x-found y-found g ways a.c k in
      record {
        end = b.end;
        leads =
            led_on (bytes "(<= (- ") (x ++ (bytes " " ++ (y ++ (bytes ") " ++ (bound_of a.c ++ bytes ")"))))) (plain-led (bytes "(<= (- ") g R ways.opens)
            (led-by naming (x ∷ y ∷ []) (bound_of a.c ++ bytes ")") ways.names (
              P,
              name-word first_name (bytes " ") a.x (omega arith),
              (λ from. event-taken R from x false (omega (arith, i.0)) refl),
              (Q, name-word second_name (bytes ") ") a.y (omega arith), (λ from. event-taken P from y true (omega (arith, i.0)) (ne_eqb _ _ other)), refl),
            )
            b.leads);
        having = b.having;
      }

-- ---- clauses
module _ (n : ℕ) (few : n ≤ most_events) (cs : List ℕ) where
  -- the atoms of an or, from the k-th to the m-th, each led by a space
  atoms-given : (c : Clause) (k m : ℕ) → m ≡ k + length c → m ≤ most_in_clause → Each (Named n) c → Each Bounded c → (ts : List ℤ) (R : Read) → Having n ts cs R → Gives (in_or k) R (led (map atom_text c)) (in_or m) n (ts ++ triples_of c) cs
  unfolding led bytes
  atoms-given [] k m e l i b ts R had = let is : m ≡ k = omega arith in rw (is, append-nil ts) (record { end = R; leads = nowhere-led (in_or k) R; having = had })
  atoms-given (a ∷ c) k m e l i b ts R had =
      let ways = lines-lead.or-leads k (omega arith) in
      let one = pos a.x ∷ pos a.y ∷ a.c ∷ [] in
      rw (← (append_assoc ts one (triples_of c)))
      (given-on (bytes " ") (atom_text a ++ led (map atom_text c)) (given-plain (bytes " ") (in_or k) ways.0 had)
      (λ S got. given-on (atom_text a) (led (map atom_text c)) (atom-given n few ts cs a i.0 b.0 (after_all (bytes " ") (in_or k)) (in_or (suc k)) ways.1 S got)
      (λ Q have. atoms-given c (suc k) m (omega arith) l i.1 b.1 (ts ++ one) Q have)))

  -- what an assert holds
  held-given : (c : Clause) → length c ≤ most_in_clause → Each (Named n) c → Each Bounded c → (ts : List ℤ) (R : Read) → Having n ts cs R → Gives opened R (held_of (map atom_text c)) closed n (ts ++ triples_of c) cs
  unfolding held_of closed in_or
  held-given [] l i b ts R had = rw (append-nil ts) (given-plain (bytes "false") opened lines-lead.empty had)
  held-given (a ∷ []) l i b ts R had = atom-given n few ts cs a i.0 b.0 opened closed lines-lead.alone R had
  held-given (a ∷ (d ∷ c)) l i b ts R had =
      let all = a ∷ d ∷ c in
      let ends_so = lines-lead.or-closes (length c) (omega arith) in
      rw (← ends_so.1)
      (given-on (bytes "(or") (led (map atom_text all) ++ bytes ")") (given-plain (bytes "(or") opened lines-lead.or-opens had)
      (λ S got. given-on (led (map atom_text all)) (bytes ")") (atoms-given all 0 (suc (suc (length c))) (omega arith) l i b ts S got)
      (λ Q have. given-plain (bytes ")") (in_or (suc (suc (length c)))) ends_so.0 have)))

  -- an assert adds the count of all alternatives so far
  assert-given : (c : Clause) → length c ≤ most_in_clause → Each (Named n) c → Each Bounded c → (ts : List ℤ) → length cs < most_clauses → length (ts ++ triples_of c) ≤ 3 * most_alternatives → (R : Read) → Having n ts cs R → Gives lines R (assert_of c) lines n (ts ++ triples_of c) (cs ++ (length (ts ++ triples_of c) / 3 ∷ []))
  unfolding assert_of opened bytes read_piece
  assert-given c l i b ts less most R had =
      given-on (bytes "(assert ") (held_of (map atom_text c) ++ bytes ")\n") (given-plain (bytes "(assert ") lines lines-lead.opens had)
      (λ S got. given-on (held_of (map atom_text c)) (bytes ")\n") (held-given c l i b ts S got) (λ Q have. ended Q have))
    where
      ended : (Q : Read) → Having n (ts ++ triples_of c) cs Q → Gives closed Q (bytes ")\n") lines n (ts ++ triples_of c) (cs ++ (length (ts ++ triples_of c) / 3 ∷ []))
      ended Q have =
          record {
            end = claused Q;
            leads =
                led-by asserting ((41 ∷ []) ∷ []) [] lines-lead.closes
                (claused Q, single-word assert_end 41 (bytes "\n"), (λ from. clause-taken Q (rw have.counts-are less) (rw have.triples-are most)), refl)
                (nowhere-led lines (claused Q));
            having = record { names-are = have.names-are; triples-are = have.triples-are; counts-are = rw (have.counts-are, have.triples-are) };
          }

triples-long : (c : Clause) → length (triples_of c) ≡ length c * 3
triples-long [] = refl
triples-long (a ∷ c) = omega (arith, triples-long c)

-- the asserts of the clauses, k alternatives standing before them: the first, and then those of the others
module _ (n : ℕ) (few : n ≤ most_events) where
  first-given : (c : Clause) → length c ≤ most_in_clause → Each (Named n) c → Each Bounded c → (k : ℕ) → k + length c ≤ most_alternatives → (ts : List ℤ) → length ts ≡ k * 3 → (ds : List ℕ) → length ds < most_clauses → (R : Read) → Having n ts ds R → Gives lines R (assert_of c) lines n (ts ++ triples_of c) (ds ++ ((k + length c) ∷ []))
  first-given c s i b k most ts long ds less R had =
      let longer : length (ts ++ triples_of c) ≡ (k + length c) * 3 = length-append ts (triples_of c) ∙ omega (arith, triples-long c) in
      let count : length (ts ++ triples_of c) / 3 ≡ k + length c = omega arith in
      rw count at (assert-given n few ds c s i b ts less (omega arith) R had)

  others-given : (c : Clause) (cs : List Clause) (k : ℕ) (ts : List ℤ) (ds : List ℕ) (R : Read) → Gives lines R (assert_of c) lines n (ts ++ triples_of c) (ds ++ ((k + length c) ∷ [])) → ((S : Read) → Having n (ts ++ triples_of c) (ds ++ ((k + length c) ∷ [])) S → Gives lines S (asserts_of cs) lines n ((ts ++ triples_of c) ++ triples_in cs) ((ds ++ ((k + length c) ∷ [])) ++ counts_from (k + length c) cs)) → Gives lines R (assert_of c ++ asserts_of cs) lines n (ts ++ (triples_of c ++ triples_in cs)) (ds ++ ((k + length c) ∷ counts_from (k + length c) cs))
  others-given c cs k ts ds R first rest =
      rw (← (append_assoc ts (triples_of c) (triples_in cs)), ← (append_assoc ds ((k + length c) ∷ []) (counts_from (k + length c) cs)))
      (given-on (assert_of c) (asserts_of cs) first rest)

  asserts-given : (cs : List Clause) → Every (Named n) cs → Every Bounded cs → Short cs → (k : ℕ) → k + sizes cs ≤ most_alternatives → (ts : List ℤ) → length ts ≡ k * 3 → (ds : List ℕ) → length ds + length cs ≤ most_clauses → (R : Read) → Having n ts ds R → Gives lines R (asserts_of cs) lines n (ts ++ triples_in cs) (ds ++ counts_from k cs)
  unfolding asserts_of sizes
  asserts-given [] i b s k most ts long ds less R had = rw (append-nil ts, append-nil ds) (record { end = R; leads = nowhere-led lines R; having = had })
  asserts-given (c ∷ cs) i b s k most ts long ds less R had =
      let longer : length (ts ++ triples_of c) ≡ (k + length c) * 3 = length-append ts (triples_of c) ∙ omega (arith, triples-long c) in
      let one_more : length (ds ++ ((k + length c) ∷ [])) ≡ length ds + 1 = length-append ds ((k + length c) ∷ []) in
      others-given c cs k ts ds R (first-given c s.0 i.0 b.0 k (omega arith) ts long ds (omega arith) R had)
      (λ S got. asserts-given cs i.1 b.1 s.1 (k + length c) (omega arith) (ts ++ triples_of c) longer (ds ++ ((k + length c) ∷ [])) (omega arith) S got)

-- ---- the whole text
module _ (l : Lent) (taken : problem_refusal l ≡ 0) where
  -- its first line, its declarations, its asserts
  text-given : Gives script nothing_read (text_of l) finished l.n l.triples l.counts
  unfolding text_of lines names_up_to bytes read_piece with_check
  text-given =
      let a = accepted l taken in
      let asserts = asserts_of (clauses_of l) in
      let none_yet : 0 + l.n ≡ l.n = omega arith in
      given-on (bytes "(set-logic QF_IDL)\n") (declarations_from 0 l.n ++ (asserts ++ bytes "(check-sat)\n"))
      (given-plain (bytes "(set-logic QF_IDL)\n") script lines-lead.begins nothing-had)
      (λ R had. given-on (declarations_from 0 l.n) (asserts ++ bytes "(check-sat)\n") (rw none_yet at (declarations-given l.n 0 (omega (arith, a.most)) R [] [] had))
      (λ S got. given-on asserts (bytes "(check-sat)\n") (rw (triples-again l taken, counts-again l taken) at (asserts-given l.n a.most (clauses_of l) (every-both (In l.n) Apart (clauses_of l) a.within a.apart) a.bounded a.short 0 (omega (arith, a.all)) [] refl [] (omega (arith, a.few)) S got))
      (λ Q have. ended Q have a.some)))
    where
      nothing-had : Having 0 [] [] nothing_read
      nothing-had = record { names-are = refl; triples-are = refl; counts-are = refl }

      ended : (Q : Read) → Having l.n l.triples l.counts Q → 1 ≤ l.n → Gives lines Q (bytes "(check-sat)\n") finished l.n l.triples l.counts
      ended Q have some =
          record {
            end = Q;
            leads =
                led_on (bytes "(check-sat") (bytes ")\n") (plain-led (bytes "(check-sat") lines Q lines-lead.checks)
                (led-by checking ((41 ∷ []) ∷ []) [] lines-lead.ended
                (Q, single-word check_end 41 (bytes "\n"), (λ from. rw (le-leb 1 (length Q.names) (rw (have.names-are, names-many l.n) some))), refl)
                (nowhere-led finished Q));
            having = have;
          }

  -- "Reading it gives the same problem." The first line leaves nothing read; each declaration adds its name; each assert the triples of its clause
  -- and then the count of all so far. So after the last line the triples and counts are those of the clauses, one after the other, and these are the
  -- problem's own (`Regaining`); the text may end there.
  pub text-answered : (R : Read) × (answer_at (text_of l) 0 ≡ going R) × (lent_of R ≡ l)
  unfolding answer_at answer_from
  text-answered =
      let g = text-given in
      let had = g.having in
      let end = g.leads.leads 0 [] in (
        g.end,
        rw (append-nil (text_of l)) at (end.1 ∙ at-end end.0 g.end),
        rw (had.triples-are, had.counts-are, had.names-are, names-many l.n),
      )
    where
      at-end : (j : ℕ) (S : Read) → answer_from j finished [] S ≡ going S
      at-end j S = unfold place_from pieces read_all settled in rw (is_true (ends finished) lines-lead.ends_there)
