-- A text that grows line by line.
use Rattle.std.specs.Prelude.{ℕ, List}

-- what is whole, what is begun behind it, and for how many bytes in all there is memory
pub record Drafted : Type 0 where
  pub whole : List ℕ
  pub begun : List ℕ
  pub room : ℕ

-- a text, and for how many bytes in all there is memory
pub record Written : Type 0 where
  pub text : List ℕ
  pub room : ℕ
