use Rattle.tables.proofs.WindowLaws.{window_alone_lem}
use mathlib.Core.Bool.{true, false}
use mathlib.Core.Path.{sym, ◌∙◌}
use Rattle.tables.proofs.window.Window.new.Goals as goal

pub returns-then-fits : goal.returns-then-fits
returns-then-fits c = window_alone_lem _ _ true (sym c.fits.ensures ∙ c.if-fits.true)

pub returns : goal.returns
returns c = window_alone_lem _ _ false (sym c.fits.ensures ∙ c.if-fits.false)
