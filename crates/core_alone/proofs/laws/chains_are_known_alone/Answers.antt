use Rattle.core_alone.proofs.Spelling.{chain_is, chain_spelled}
use Rattle.core_alone.proofs.laws.chains_are_known_alone.Goals as goal

pub returns-clause-known : goal.returns-clause-known
returns-clause-known c start left k s i v a so alone at tabs lt is least most =
    chain_spelled left k s i v so at tabs alone a lt is least most

pub returns-clause-only : goal.returns-clause-only
returns-clause-only c start left k s i v a slots end so alone at tabs lt is least most h =
    chain_is left k s i v so at tabs alone a lt is slots end h least most
