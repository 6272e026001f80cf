use Rattle.store_key.proofs.KeyFacts.{key_is_bytes, key_is_long}
use Rattle.store_key.proofs.laws.keys_have_16_bytes.Goals as goal

pub returns-clause-length : goal.returns-clause-length
returns-clause-length c url = key_is_long url

pub returns-clause-bytes : goal.returns-clause-bytes
returns-clause-bytes c url i = key_is_bytes url i
