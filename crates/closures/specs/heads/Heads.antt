-- What our own crates promise each other; nothing here has to be believed.
-- The heads of nodes as those of the definitions.
use Rattle.scheme.specs.Terms
use Rattle.scheme.specs.Terms.{con, nt, par}
use Rattle.closures.specs.declared.heads.Head.{Head}
use Rattle.closures.specs.declared.heads.Head.TheVariants.{Constructor, Nonterminal, Parameter}

-- a head as one of the definitions
abbrev pub head_as : Head → Terms.Head
head_as (Constructor c) = con c
head_as (Nonterminal f) = nt f
head_as (Parameter i) = par i
