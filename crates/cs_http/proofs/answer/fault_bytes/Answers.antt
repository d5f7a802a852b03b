use Rattle.std.proofs.Common.{◌∙◌, ap, Some, codes}
use Rattle.cs_http.specs.Refusal.{fault_text}
use Rattle.cs_http.proofs.Faults.{text_400, text_404, text_405, text_413, text_503}
use Rattle.cs_http.proofs.answer.fault_bytes.Goals as goal

pub returns-in-Head : goal.returns-in-Head
returns-in-Head c = ap fault_text c.in-Head.is ∙ ap Some (text_400 (codes "{\"refusal\":\"Head\"}"))

pub returns-in-Method : goal.returns-in-Method
returns-in-Method c = ap fault_text c.in-Method.is ∙ ap Some (text_405 (codes "{\"refusal\":\"Method\"}"))

pub returns-in-NotFound : goal.returns-in-NotFound
returns-in-NotFound c = ap fault_text c.in-NotFound.is ∙ ap Some (text_404 (codes "{\"refusal\":\"NotFound\"}"))

pub returns-in-Length : goal.returns-in-Length
returns-in-Length c = ap fault_text c.in-Length.is ∙ ap Some (text_400 (codes "{\"refusal\":\"Length\"}"))

pub returns-in-Coding : goal.returns-in-Coding
returns-in-Coding c = ap fault_text c.in-Coding.is ∙ ap Some (text_400 (codes "{\"refusal\":\"Coding\"}"))

pub returns-in-TooLong : goal.returns-in-TooLong
returns-in-TooLong c = ap fault_text c.in-TooLong.is ∙ ap Some (text_413 (codes "{\"refusal\":\"TooLong\"}"))

pub returns-in-BadText : goal.returns-in-BadText
returns-in-BadText c = ap fault_text c.in-BadText.is ∙ ap Some (text_400 (codes "{\"refusal\":\"BadText\"}"))

pub returns-in-Memory : goal.returns-in-Memory
returns-in-Memory c = ap fault_text c.in-Memory.is ∙ ap Some (text_503 (codes "{\"refusal\":\"Memory\"}"))
