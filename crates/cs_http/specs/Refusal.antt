-- The bytes of an answer's head, and of a refusal (RFC 9112, section 4; the fields and bodies are this project's own).
use Rattle.std.specs.Prelude.{ℕ, List, ◌++◌, ◌==◌, if◌then◌else◌, Option, Some, None, codes, decimal}
use Rattle.cs_http.specs.declared.fault.WireFault.{WireFault}

-- the head before the lines of an answer
abbrev pub answer_head_text : List ℕ
answer_head_text = codes "HTTP/1.1 200 OK\r\ncontent-type: application/x-ndjson\r\nconnection: close\r\n\r\n"

-- the head of a refusal of READ
abbrev pub refusal_head_text : List ℕ
refusal_head_text = codes "HTTP/1.1 400 Bad Request\r\ncontent-type: application/json\r\nconnection: close\r\n\r\n"

-- the words behind a status
abbrev pub reason_text : ℕ → List ℕ
reason_text status =
    if status == 400 then codes "Bad Request"
    else (if status == 404 then codes "Not Found"
    else (if status == 405 then codes "Method Not Allowed"
    else (if status == 413 then codes "Payload Too Large"
    else (if status == 503 then codes "Service Unavailable" else codes ""))))

-- a refusal with this body
unfoldable pub refusal_text : ℕ → List ℕ → List ℕ
refusal_text status body =
    codes "HTTP/1.1 " ++ decimal status ++ codes " " ++ reason_text status
    ++ codes "\r\ncontent-type: application/json\r\nconnection: close\r\n\r\n" ++ body ++ codes "\n"

-- what a request is answered that is refused before it is a READ; one that may yet be whole is not answered
abbrev pub fault_text : WireFault → Option (List ℕ)
fault_text WireFault.Head = Some (refusal_text 400 (codes "{\"refusal\":\"Head\"}"))
fault_text WireFault.Partial = None
fault_text WireFault.Method = Some (refusal_text 405 (codes "{\"refusal\":\"Method\"}"))
fault_text WireFault.NotFound = Some (refusal_text 404 (codes "{\"refusal\":\"NotFound\"}"))
fault_text WireFault.Length = Some (refusal_text 400 (codes "{\"refusal\":\"Length\"}"))
fault_text WireFault.Coding = Some (refusal_text 400 (codes "{\"refusal\":\"Coding\"}"))
fault_text WireFault.TooLong = Some (refusal_text 413 (codes "{\"refusal\":\"TooLong\"}"))
fault_text WireFault.BadText = Some (refusal_text 400 (codes "{\"refusal\":\"BadText\"}"))
fault_text WireFault.Memory = Some (refusal_text 503 (codes "{\"refusal\":\"Memory\"}"))
