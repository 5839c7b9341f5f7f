-- The number, the place and the layer of each fault of a source.
use Rattle.std.specs.Prelude.{ℕ}
use Rattle.source.specs.declared.SourceFault.{SourceFault}
use Rattle.source.specs.declared.SourceFault.TheVariants.{UnknownByte, LongWord, LargeNumber, TooManyTokens}

abbrev pub number : SourceFault → ℕ
number (UnknownByte p l) = 9
number (LongWord p l) = 10
number (LargeNumber p l) = 11
number (TooManyTokens p l) = 13

abbrev pub place : SourceFault → ℕ
place (UnknownByte p l) = p
place (LongWord p l) = p
place (LargeNumber p l) = p
place (TooManyTokens p l) = p

abbrev pub layer : SourceFault → ℕ
layer (UnknownByte p l) = l
layer (LongWord p l) = l
layer (LargeNumber p l) = l
layer (TooManyTokens p l) = l
