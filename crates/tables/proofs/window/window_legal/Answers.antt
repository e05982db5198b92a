use mathlib.Core.Path.{ap₂, ◌∙◌}
use borrow.Author.Tests.{eq-eqb}
use lib.Dec.{ltb}
use Rattle.scope.specs.Windows.{framed, Window}
use Rattle.tables.proofs.WindowLaws.{read_fits, misfit, first_window, next_window}
use Rattle.tables.proofs.window.window_legal.Goals as goal

pub returns-then-i-eq0 : goal.returns-then-i-eq0
returns-then-i-eq0 c =
    eq-eqb _ 0 c.if-i-eq0.true ∙ first_window _ _ _ (read_fits (framed c.args.frame) c.new.result c.new.ensures c.window_at-window.ensures c.is_ok.ensures.value c.if-is_ok.true) c.if-i-eq0.true

pub returns-else-is_ok : goal.returns-else-is_ok
returns-else-is_ok c =
    c.if-is_ok.false ∙ misfit _ _ _ (read_fits (framed c.args.frame) c.new.result c.new.ensures c.window_at-window.ensures c.is_ok.ensures.value c.if-is_ok.false)

pub returns-else-i-eq0 : goal.returns-else-i-eq0
returns-else-i-eq0 c =
    ap₂ (λ (p w : Window). ltb p.end w.start) c.window_at.ensures c.window_at-window.ensures
    ∙ next_window _ _ _ (read_fits (framed c.args.frame) c.new.result c.new.ensures c.window_at-window.ensures c.is_ok.ensures.value c.if-is_ok.true) c.if-i-eq0.false
