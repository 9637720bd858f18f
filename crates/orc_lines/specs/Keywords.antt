-- The first words of lines.
use Rattle.std.specs.Prelude.{ℕ, List, codes, if◌then◌else◌}
use Rattle.orc_lines.specs.Words.{is_text}
use Rattle.orc_lines.specs.declared.keyword.Keyword.{Keyword}
use Rattle.orc_lines.specs.declared.keyword.Keyword.TheVariants as keyword

-- the keyword of a word that begins a step
abbrev pub step_keyword_of : List ℕ → Keyword
step_keyword_of word =
    if is_text word (codes "settle") then keyword.Settle else
    if is_text word (codes "stop") then keyword.Stop else
    if is_text word (codes "recover") then keyword.Recover else
    if is_text word (codes "history") then keyword.History else
    if is_text word (codes "begin") then keyword.Begin else
    if is_text word (codes "admit") then keyword.Admit else
    if is_text word (codes "step") then keyword.Step else
    if is_text word (codes "decide") then keyword.Decide else
    if is_text word (codes "tick") then keyword.Tick else
    if is_text word (codes "restart") then keyword.Restart else
    if is_text word (codes "fault") then keyword.Fault else
    if is_text word (codes "reconcile") then keyword.Reconcile else
    if is_text word (codes "log") then keyword.Log else keyword.Other

-- the keyword of a word that begins a call, an action or a step
abbrev pub call_keyword_of : List ℕ → Keyword
call_keyword_of word =
    if is_text word (codes "call") then keyword.Call else
    if is_text word (codes "create") then keyword.Create else
    if is_text word (codes "modify") then keyword.Modify else
    if is_text word (codes "redeploy") then keyword.Redeploy else
    if is_text word (codes "literal") then keyword.Literal else
    if is_text word (codes "write") then keyword.Write else
    if is_text word (codes "delete") then keyword.Delete else
    if is_text word (codes "set") then keyword.Set else
    if is_text word (codes "unset") then keyword.Unset else
    if is_text word (codes "unbase") then keyword.Unbase else
    if is_text word (codes "end") then keyword.End else step_keyword_of word

-- the keyword of a line's first word
unfoldable pub keyword_of : List ℕ → Keyword
keyword_of word =
    if is_text word (codes "device") then keyword.Device else
    if is_text word (codes "datamodel") then keyword.Datamodel else
    if is_text word (codes "devicetype") then keyword.Devicetype else
    if is_text word (codes "rule") then keyword.Rule else
    if is_text word (codes "base") then keyword.Base else
    if is_text word (codes "data") then keyword.Data else
    if is_text word (codes "yang") then keyword.Yang else
    if is_text word (codes "template") then keyword.Template else
    if is_text word (codes "script") then keyword.Script else
    if is_text word (codes "show") then keyword.Show else
    if is_text word (codes "json") then keyword.Json else
    if is_text word (codes "meta") then keyword.Meta else call_keyword_of word
