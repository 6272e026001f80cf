use Rattle.core_alone.proofs.Finding.{has_tabs}
use Rattle.core_alone.proofs.Spelling.{chain_is, chain_spelled}
use Rattle.store_rule.specs.Ground.{left_to}
use Rattle.pass_laws.proofs.steps.chains_are_known.Goals as goal

pub returns-clause-known : goal.returns-clause-known
returns-clause-known c start g v a st pass lt left least most =
    chain_spelled (left_to g) g.setting st.state st.index v st.rule.sound st.at (has_tabs v pass) st.rule.alone a lt left least most

pub returns-clause-only : goal.returns-clause-only
returns-clause-only c start g v a slots end st pass lt left least most h =
    chain_is (left_to g) g.setting st.state st.index v st.rule.sound st.at (has_tabs v pass) st.rule.alone a lt left slots end h least most
