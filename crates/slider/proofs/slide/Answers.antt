-- `slider::slide` meets its contract. Assumes nothing.
use mathlib.Core.Path.{sym, ap, ◌∙◌}
use Rattle.slider.specs.declared.Kind.{Kind}
use Rattle.slider.specs.Slider.{told, slider_gives}
use Rattle.slider.proofs.slide.Goals as goal

pub returns-in-Span : goal.returns-in-Span
unfolding slider_gives
returns-in-Span c = c.span.ensures ∙ sym (ap (λ (k : Kind). told (slider_gives k c.args.position c.args.used)) c.in-Span.is)

pub returns-in-Rate : goal.returns-in-Rate
unfolding slider_gives
returns-in-Rate c = c.rate.ensures ∙ sym (ap (λ (k : Kind). told (slider_gives k c.args.position c.args.used)) c.in-Rate.is)

pub returns-in-Fixed : goal.returns-in-Fixed
unfolding slider_gives
returns-in-Fixed c =
    c.bound_of.ensures ∙ sym (ap (λ (k : Kind). told (slider_gives k c.args.position c.args.used)) c.in-Fixed.is)
