-- The settings of a plan that is written, in the words of `scope`
use Rattle.std.specs.Prelude.{ℕ, List, [], ◌∷◌}
use Rattle.print.specs.declared.write.Settings.{Settings}
use Rattle.print.specs.declared.write.Settings.TheVariants.{Plain, WithShortest, WithRule}

abbrev pub listed : Settings → List ℕ
listed Plain = []
listed (WithShortest m) = m ∷ []
listed (WithRule m rule lost) = m ∷ rule ∷ lost ∷ []
