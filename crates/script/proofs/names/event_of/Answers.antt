-- `event_of` meets its contract: the first of the names that is the word. Assumes nothing.
use Rattle.std.proofs.Common.{rules, ◌≡◌, take}
use Rattle.std.proofs.lemmas.Grind.{common_steps}
use lib.Dec.{eqb}
use lib.Pointwise.{pointwise}
use Rattle.std.specs.Prelude.{position}
use Rattle.std.proofs.lemmas.Iterator.{YieldsList-from_slice}
use Rattle.std.proofs.lemmas.Iterator.Search.{position_from_yields_List}
use Rattle.script.specs.Notes.{word_at}
use Rattle.script.specs.declared.names.Span.{Span}
use Rattle.script.proofs.Declaring.{event-first}
use Rattle.script.proofs.names.event_of.Goals as goal

pub returns : goal.returns
returns c =
    let a = c.args in
    let spans = take a.names.n a.names.spans in
    let p : c.position.result ≡ position (λ s. pointwise eqb (word_at a.text.now s) a.word.now) spans =
    position_from_yields_List (λ (s : Span). pointwise eqb (word_at a.text.now s) a.word.now) _ _ _ c.position.ensures.ran (YieldsList-from_slice spans cc) (λ x b q k. search rules) in
    let same : c.map.result ≡ c.position.result = search (rules, common_steps) in
    rw (same, p) (event-first a.text.now a.word.now spans)
