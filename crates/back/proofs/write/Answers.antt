-- `back::write` meets its contract.
use Rattle.error.specs.Answer.{line_values}
use Rattle.error.proofs.AnswerLaws.{with_values}
use borrow.Author.Rules.{rules}
use mathlib.Core.Path.{◌≡◌, ◌∙◌, sym}
use Rattle.back_spelling.specs.Means.{page_of}
use Rattle.back.proofs.ScriptLaws.{shut_answer, open_answer}
use Rattle.back.proofs.write.Goals as goal

pub returns-in-Refused : goal.returns-in-Refused
returns-in-Refused c =
    let the_parts = with_values line_values
    (c.refused.ensures ∙ shut_answer _ _ _ _ (sym c.in-Refused.is ∙ c.check.ensures.value)) in record {
      out_after = the_parts.0;
      values = the_parts.1;
    }

-- the bytes that the buffer is left with are those that were lent last
left_with : {A B : Type 0} {r : A} (a b : B) {x : A × B} → (r, a) ≡ x → b ≡ a → (r, b) ≡ x
left_with {r = r} a b h e = rw e h

pub returns-in-Accepted : goal.returns-in-Accepted
unfolding page_of
returns-in-Accepted c =
    let same = c.copy_nodes.ensures.same_buffer ∙ c.new-writer.ensures.same_buffer in
    let the_parts = with_values line_values
    (left_with _ _
    (open_answer _ _ _ _ (sym c.in-Accepted.is ∙ c.check.ensures.value)
    c.take_field-head.ensures.reads (rw c.new-writer.ensures.page at c.copy_nodes.ensures.nodes)
    (λ x w. c.finish.ensures _ _ x (rw same at w)))
    (search rules)) in record {
      out_after = the_parts.0;
      values = the_parts.1;
    }
