use Rattle.core_log.proofs.Versions.{version_stands}
use Rattle.core_log.proofs.laws.logged_versions_stand.Goals as goal

pub returns : goal.returns
returns c start k s log l so st h = version_stands k s log l so st.links h
