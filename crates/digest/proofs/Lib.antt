mod Hashes
