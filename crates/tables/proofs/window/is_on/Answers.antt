use mathlib.Core.Path.{ap, ◌∙◌}
use Rattle.scope.specs.Windows.{windows_of, covers, supplied}
use Rattle.tables.proofs.window.is_on.Goals as goal

pub returns : goal.returns
unfolding supplied
returns c =
    let a = c.args in
    c.covered.ensures ∙ ap (covers 0 (windows_of a.windows.now)) c.place_of-place.ensures
