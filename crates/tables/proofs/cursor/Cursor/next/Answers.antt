use mathlib.Core.Path.{◌≡◌, sym, ap, ◌∙◌}
use native.Mathlib.Omega.{arith}
use Rattle.scope.specs.Windows.{Window, windows_of, window_at}
use Rattle.tables.proofs.CursorLaws.{is_there, after_round, after_end, after_same}
use Rattle.tables.proofs.cursor.Cursor.next.Lts as lts
use Rattle.tables.proofs.cursor.Cursor.next.Tie as tie
use Rattle.tables.proofs.cursor.Cursor.next.Reads as reads
use Rattle.tables.proofs.cursor.Cursor.next.Goals as goal

abbrev After-window_at : Type 0
After-window_at = lts.After-window_at tie.the-claims reads.Pre reads.Post

pub returns-then-frame-self : goal.returns-then-frame-self
returns-then-frame-self c = c.new.ensures ∙ after_round _ _ _ (omega arith)

pub returns-then-tick-frame : goal.returns-then-tick-frame
returns-then-tick-frame c = c.new-then-tick-frame.ensures ∙ after_round _ _ _ (omega arith)

-- where the window at hand ends
end_is : (c : After-window_at) → let a = c.args in
    c.window_at-window.result.end ≡ (window_at (windows_of a.windows.now) a.self.window).end
end_is c = ap (λ (w : Window). w.end) c.window_at-window.ensures

pub overflow_add-result : goal.overflow_add-result
overflow_add-result c =
    let a = c.args in
    omega (arith, is_there a.windows.now a.self.window a.self.tick (sym (end_is c.before.before.before) ∙ c.if-window-tick.true))

pub returns-then-window-tick : goal.returns-then-window-tick
returns-then-window-tick c = after_end _ _ _ (omega arith) (sym (end_is c.before.before.before) ∙ c.if-window-tick.true)

pub returns : goal.returns
returns c = after_same _ _ _ (omega arith) (λ e. c.if-window-tick.false (end_is c.before.before.before ∙ e))
