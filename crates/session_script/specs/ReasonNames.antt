-- How the reasons of a script's refusal are printed.
use Rattle.std.specs.Prelude.{ℕ, List, codes}
use Rattle.session_script.specs.declared.scripts.ScriptWhy.{ScriptWhy}
use Rattle.session_script.specs.declared.scripts.ScriptWhy.TheVariants as reasons

abbrev pub reason_name : ScriptWhy → List ℕ
reason_name reasons.Long = codes "Long"
reason_name reasons.Utf8 = codes "Utf8"
reason_name reasons.Who = codes "Who"
reason_name reasons.Verb = codes "Verb"
reason_name reasons.Words = codes "Words"
reason_name reasons.Path = codes "Path"
reason_name reasons.Key = codes "Key"
reason_name reasons.Flag = codes "Flag"
reason_name reasons.Number = codes "Number"
reason_name reasons.Bytes = codes "Bytes"
reason_name reasons.Calls = codes "Calls"
reason_name reasons.Big = codes "Big"
reason_name reasons.Sum = codes "Sum"
