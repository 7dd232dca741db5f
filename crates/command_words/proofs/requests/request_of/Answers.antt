use Rattle.std.proofs.Common.{◌∙◌, sym, string_bytes}
use Rattle.std.proofs.lemmas.Result.{IfOk-weaker}
use Rattle.command_words.specs.Forms.{is_entry}
use Rattle.command_words.proofs.FormLaws.{first_unknown, first_word, form_passes}
use Rattle.command_words.proofs.requests.request_of.Goals as goal

pub request_by-requires : goal.request_by-requires
request_by-requires c =
    form_passes is_entry c.args.forms.now c.in-Some-form_named.form c.as_str.result.now c.requires (sym c.in-Some-form_named.ensures)

pub returns-in-Some-form_named : goal.returns-in-Some-form_named
returns-in-Some-form_named c =
    IfOk-weaker c.request_by.result _ _
    (λ request is. is ∙ first_word string_bytes c.args.forms.now c.in-Some-form_named.form c.args.words.now c.in-Some.word.now c.as_str.result.now
    c.as_str.ensures.value c.in-Some.ensures.value c.in-Some-form_named.ensures)
    c.request_by.ensures

pub returns-in-None : goal.returns-in-None
returns-in-None c = first_unknown string_bytes c.args.forms.now c.args.words.now c.in-Some.word.now c.as_str.result.now c.as_str.ensures.value c.in-Some.ensures.value c.in-None.ensures
