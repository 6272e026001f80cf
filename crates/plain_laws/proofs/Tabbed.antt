-- The lines of a good script leave the last tab to whole requests.
use Rattle.std.proofs.Common.{ℕ, List}
use Rattle.std.specs.Prelude.{All, Contains, ◌==◌}
use Rattle.std.proofs.lemmas.List.Elements.{All-nil, All-push, All-filter, All-contains}
use Rattle.script_text.specs.Tabs.{IsOnTab}
use Rattle.script_text.specs.declared.verb.Verb.{Verb}
use Rattle.script_text.specs.declared.line.Line.{Line}
use Rattle.script_text.specs.declared.request.Request.{Request}
use Rattle.script_text.specs.declared.request.Request.TheVariants.{Begin, Add, End, DropTab, OpenTab, More, CloseTab}
use Rattle.script_text.specs.Requests.{SpellsRequest}
use Rattle.script_text.specs.Lines.{AreLines}
use Rattle.script_text.specs.Lines.AreLines.{no_line, one_more}
use Rattle.script_text.specs.Script.{IsScript}
use Rattle.script_text.specs.Words.{lines_of}
use Rattle.plain_model.specs.Serving.{lines_for}

on_tab : (request : Request) (name : Verb) (words : List (List ℕ)) → SpellsRequest request name words → IsOnTab request
on_tab (Begin tab url body) name words h = h.1.0
on_tab (Add tab count) name words h = h.1.0
on_tab (End tab) name words h = h.1.0
on_tab (DropTab tab) name words h = h.1.0
on_tab (OpenTab tab url) name words h = h.1.0
on_tab (More tab) name words h = h.1.0
on_tab (CloseTab tab) name words h = h.1.0
on_tab _ name words h = tt

all_on_tab : (workers : ℕ) (texts : List (List ℕ)) (lines : List Line) → AreLines workers texts lines → All (λ line. IsOnTab line.request) lines
all_on_tab workers _ _ no_line = All-nil (λ line. IsOnTab line.request)
all_on_tab workers _ _ (one_more {texts = texts} {lines = lines} {line = line} are is) =
    All-push (λ l. IsOnTab l.request) lines line (all_on_tab workers texts lines are) (on_tab line.request is.name is.fields is.request)

pub good_tabs : (workers : ℕ) (text : List ℕ) (script : List Line) → IsScript workers text script → (worker : ℕ) (line : Line) → Contains (lines_for worker script) line → IsOnTab line.request
good_tabs workers text script are worker line among =
    All-contains (λ l. IsOnTab l.request) (lines_for worker script) line
    (All-filter (λ l. l.worker == worker) (λ l. IsOnTab l.request) script (all_on_tab workers (lines_of text) script are)) among
